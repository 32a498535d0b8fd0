pub mod Events
pub mod OfValues
pub mod OfSteps
pub mod OfRuns
pub mod Laws
pub mod Rows
