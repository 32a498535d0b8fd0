pub mod CallLemmas
pub mod FollowLemmas
pub mod MadeLemmas
