pub mod JoinLemmas
pub mod LoadLemmas
pub mod ScanLemmas
pub mod TaskLemmas
pub mod GoLemmas
pub mod LawLemmas
