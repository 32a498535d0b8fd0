pub mod StepsLemmas
pub mod StepsOpen
pub mod KeyLemmas
pub mod StepsLaws
pub mod PackLaws
pub mod FaultLaws
