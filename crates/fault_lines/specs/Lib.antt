pub mod Source
pub mod Counted
pub mod FaultText
pub mod WarningText
