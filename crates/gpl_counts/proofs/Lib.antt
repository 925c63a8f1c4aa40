pub mod Counts
pub mod Bounds
pub mod OneCounts
