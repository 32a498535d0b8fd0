pub mod KeepLemmas
pub mod MarkLemmas
pub mod CopyLemmas
pub mod IssuedLemmas
pub mod OpeningLemmas
