pub mod PlaceLemmas
pub mod WinnerLemmas
pub mod Greatest
pub mod OneSet
pub mod SomeSet
