pub mod TextLaws
pub mod OrderLaws
pub mod ReadingLaws
pub mod StepLemmas
pub mod SetLaws
pub mod SetLemmas
pub mod SomeTexts
