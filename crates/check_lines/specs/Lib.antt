pub mod Words
pub mod Counts
pub mod CheckLines
pub mod PathText
pub mod RefusalLines
