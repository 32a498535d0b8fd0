pub mod ProgressLemmas
pub mod ReplyLaws
pub mod ReplyAgain
