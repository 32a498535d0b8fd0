pub mod SameLemmas
pub mod LineLemmas
