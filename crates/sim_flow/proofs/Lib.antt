pub mod Numbers
pub mod Paths
pub mod Jumps
pub mod Branches
pub mod Cases
pub mod Dispatch
