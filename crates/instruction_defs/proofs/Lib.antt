pub mod LineRows
pub mod Windows
pub mod GrowingLaws
