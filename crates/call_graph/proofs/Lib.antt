pub mod Chains
pub mod Firsts
pub mod Cycles
pub mod Search
pub mod Falls
pub mod SomeCall
