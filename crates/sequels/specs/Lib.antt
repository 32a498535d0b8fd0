pub mod Sequel
pub mod Going
pub mod Laws
pub mod Meeting
pub mod Limits
pub mod Steady
