pub mod LineSteps
pub mod Operands
pub mod Instructions
pub mod Lines
pub mod Entries
pub mod ListingLaw
pub mod LengthLaws
