pub mod LineTexts
pub mod PublishedRows
pub mod ReadBackFacts
pub mod Bounds
pub mod TextFacts
