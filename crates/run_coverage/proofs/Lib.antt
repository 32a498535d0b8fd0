pub mod CallLemmas
pub mod ItemLemmas
pub mod CoverLemmas
pub mod ShownLemmas
pub mod ReachLemmas
pub mod RanLemmas
