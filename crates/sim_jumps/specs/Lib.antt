pub mod Pieces
pub mod Routines
pub mod Jumps
