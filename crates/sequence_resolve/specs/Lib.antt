pub mod Places
pub mod Levels
pub mod Effective
pub mod Winners
pub mod Views
pub mod Resolving
