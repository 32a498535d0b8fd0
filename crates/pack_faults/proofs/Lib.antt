pub mod SetLemmas
pub mod SameLemmas
pub mod EqualLemmas
pub mod SharedLemmas
pub mod AddedLemmas
pub mod KeyLemmas
pub mod MergeLemmas
pub mod AnswerLemmas
