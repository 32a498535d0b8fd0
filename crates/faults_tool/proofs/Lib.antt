pub mod PackLaws
mod AskLemmas
mod AnswerLemmas
pub mod OneAnswer
mod CallLemmas
