pub mod Answers
pub mod Defined
pub mod Moves
pub mod Checks
pub mod Outcomes
