pub mod Runs
pub mod Ends
pub mod Texts
pub mod Meant
