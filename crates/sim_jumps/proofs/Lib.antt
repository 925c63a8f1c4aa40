pub mod Paths
pub mod Jumps
pub mod NextAddress
