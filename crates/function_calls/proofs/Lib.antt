pub mod WholeLines
pub mod FrameLemmas
pub mod Leaves
pub mod LineLemmas
pub mod UseLemmas
pub mod KindLemmas
