pub mod TraceLemmas
pub mod FaultLemmas
