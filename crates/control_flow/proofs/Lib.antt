pub mod Exits
pub mod Loops
pub mod Parts
pub mod FewLemmas
pub mod DebugLemmas
pub mod StartLemmas
pub mod RunLemmas
pub mod EndRules
