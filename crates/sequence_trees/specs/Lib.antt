pub mod Trees
pub mod Parts
pub mod Texts
pub mod Order
pub mod Reading
pub mod Answers
pub mod Outcomes
pub mod SetView
