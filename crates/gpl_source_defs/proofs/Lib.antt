pub mod GrowingLaws
pub mod Sizes
pub mod CheckLaws
