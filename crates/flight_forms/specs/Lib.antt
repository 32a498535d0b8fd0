pub mod Packing
pub mod Forms
pub mod Flights
pub mod Chains
pub mod Packets
pub mod Polls
pub mod Sizes
