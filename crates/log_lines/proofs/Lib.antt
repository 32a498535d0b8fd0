mod CodeLemmas
mod LineLemmas
pub mod Cutting
mod Rows
