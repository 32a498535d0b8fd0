pub mod CountingLemmas
pub mod ComingLemmas
pub mod PairLemmas
pub mod FaultLemmas
pub mod SummaryLemmas
pub mod CallLemmas
