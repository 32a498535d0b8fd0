pub mod CodeText
pub mod Places
pub mod Units
pub mod LogText
pub mod LogLines
pub mod Entries
pub mod Rows
pub mod Laws
