pub mod Graph
pub mod Spots
pub mod Marks
pub mod Ranks
