pub mod Named
pub mod Answers
pub mod Defined
pub mod Validity
