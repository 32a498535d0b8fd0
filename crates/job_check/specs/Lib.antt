pub mod Values
pub mod Answers
pub mod Own
pub mod Running
