pub mod StepFaults
pub mod SetFaults
pub mod Calls
pub mod Valid
pub mod Answers
pub mod Views
