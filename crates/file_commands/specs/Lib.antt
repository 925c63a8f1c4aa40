pub mod Reported
pub mod Reading
pub mod Modules
pub mod Copying
pub mod Inputs
