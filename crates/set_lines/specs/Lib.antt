pub mod Lines
pub mod Rests
