pub mod Merged
pub mod Answers
pub mod Keys
pub mod Lined
