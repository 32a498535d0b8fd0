pub mod Held
pub mod Parts
pub mod Frame
pub mod Starting
pub mod Answers
pub mod Valid
