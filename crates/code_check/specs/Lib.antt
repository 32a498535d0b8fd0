pub mod Order
pub mod First
pub mod Notes
pub mod ExprFaults
pub mod BlockFaults
pub mod Views
