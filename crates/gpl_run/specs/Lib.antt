pub mod Sessions
pub mod Feeding
