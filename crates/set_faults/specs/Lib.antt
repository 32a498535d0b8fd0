pub mod Listed
pub mod Syntax
pub mod Sites
pub mod Controls
pub mod Rules
pub mod Calls
pub mod Answers
