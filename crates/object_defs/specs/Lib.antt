pub mod Modules
pub mod Digits
pub mod Tags
pub mod Fields
pub mod Groups
pub mod Reading
pub mod Writing
pub mod Laws
