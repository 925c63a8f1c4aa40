pub mod Stops
pub mod Undo
pub mod Parts
pub mod Turns
