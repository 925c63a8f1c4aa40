pub mod Composed
pub mod Blanks
pub mod Hexadecimal
pub mod LineSteps
pub mod GroupSteps
