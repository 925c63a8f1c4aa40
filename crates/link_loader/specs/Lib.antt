pub mod Tables
pub mod Answers
pub mod Holds
pub mod Parts
pub mod View
