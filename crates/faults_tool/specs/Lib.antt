pub mod Packs
pub mod Asked
pub mod Answers
pub mod Calls
