pub mod Parts
pub mod FaultsJson
pub mod Columns
pub mod SarifLog
pub mod WarningsJson
pub mod WarningsSarif
