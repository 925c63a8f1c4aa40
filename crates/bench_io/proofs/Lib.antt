pub mod TakeCalls
pub mod Writes
pub mod Progress
pub mod Shown
