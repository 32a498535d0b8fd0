pub mod WalkLemmas
pub mod CalledLemmas
pub mod SetLemmas
