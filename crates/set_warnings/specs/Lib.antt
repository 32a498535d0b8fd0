pub mod Sites
pub mod Assigned
pub mod Waits
pub mod Steps
pub mod Sequences
pub mod Answers
