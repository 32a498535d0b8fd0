pub mod Tasks
pub mod Following
pub mod Laws
