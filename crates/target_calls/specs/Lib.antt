pub mod Asks
pub mod NeedPoints
pub mod World
pub mod Values
pub mod Journal
pub mod Weights
