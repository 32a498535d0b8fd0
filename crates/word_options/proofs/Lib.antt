pub mod LineLemmas
pub mod AskLemmas
