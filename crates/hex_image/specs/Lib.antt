pub mod Records
pub mod Image
pub mod Reads
