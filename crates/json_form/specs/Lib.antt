pub mod Faults
pub mod Reading
pub mod Names
pub mod Form
pub mod Short
