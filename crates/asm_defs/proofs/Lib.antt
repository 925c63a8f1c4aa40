pub mod Sizes
pub mod OutcomeSizes
pub mod CheckLaws
pub mod GrowingLaws
pub mod PlacedWords
