mod AskLemmas
mod AnswerLemmas
pub mod OneAnswer
mod CallLemmas
mod LogLemmas
