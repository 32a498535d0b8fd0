pub mod ActionLemmas
pub mod AtOnceLemmas
pub mod ListLemmas
