pub mod Said
mod Leaves
mod SaidValues
mod SaidSteps
mod SaidRuns
mod Skimming
mod Rows
