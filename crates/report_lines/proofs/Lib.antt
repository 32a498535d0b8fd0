pub mod WatchLemmas
pub mod RowLemmas
pub mod TraceLemmas
pub mod ViewLemmas
pub mod FrameLemmas
