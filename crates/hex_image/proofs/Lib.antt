pub mod RecordLemmas
pub mod PlaceLemmas
pub mod SplitLemmas
pub mod TextLemmas
mod FewLemmas
