pub mod Entries
pub mod Inputs
pub mod Readings
pub mod Steps
pub mod Events
