pub mod LinkedInput
pub mod InputRun
pub mod Bench
pub mod Ran
pub mod Loaded
pub mod Traced
pub mod Laws
pub mod Steady
