pub mod Stream
pub mod Shown
pub mod Memory
pub mod ReadAll
pub mod Written
