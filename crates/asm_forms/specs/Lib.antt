pub mod Named
pub mod Answers
pub mod Forms
pub mod UpToTwo
pub mod Skeletons
pub mod Lines
pub mod Values
pub mod Placed
