pub mod Flown
pub mod Full
pub mod Clearing
pub mod Wires
pub mod Opening
