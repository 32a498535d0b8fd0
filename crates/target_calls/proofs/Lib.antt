pub mod CallLists
pub mod OneCall
pub mod EndLemmas
pub mod WorldLemmas
pub mod MarkLemmas
pub mod NeedLemmas
pub mod EntryLemmas
pub mod CallRanges
