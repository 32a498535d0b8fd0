pub mod NotedLemmas
pub mod EndLemmas
pub mod PollLemmas
pub mod Opened
