pub mod Held
pub mod Ends
pub mod Stops
pub mod Lines
pub mod Frame
pub mod Kinds
