pub mod NoFloats
pub mod SarifFloats
pub mod Rows
pub mod WarnedFloats
