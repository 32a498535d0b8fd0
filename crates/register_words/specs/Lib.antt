pub mod Registers
pub mod Known
pub mod Flags
pub mod Accesses
