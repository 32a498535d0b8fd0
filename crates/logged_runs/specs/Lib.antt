pub mod Seen
pub mod Walk
pub mod Answers
pub mod OfValues
pub mod OfSteps
