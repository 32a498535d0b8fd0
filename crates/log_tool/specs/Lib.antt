pub mod Logs
pub mod Asked
pub mod Answers
pub mod Calls
