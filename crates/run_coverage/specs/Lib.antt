pub mod Reach
pub mod Items
pub mod Ran
pub mod Covered
pub mod Text
pub mod Laws
