pub mod Numbers
pub mod Paths
pub mod Comparisons
pub mod Dispatch
pub mod StatusTests
