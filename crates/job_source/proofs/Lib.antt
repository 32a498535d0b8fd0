mod ReadingLemmas
pub mod SourceLemmas
