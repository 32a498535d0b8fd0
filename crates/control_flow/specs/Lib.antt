pub mod Calls
pub mod Parts
pub mod Answers
pub mod Closing
