pub mod Shown
pub mod Reach
