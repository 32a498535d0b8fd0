pub mod StepWeights
pub mod RowLemmas
pub mod CountLemmas
