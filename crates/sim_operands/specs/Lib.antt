pub mod Pieces
pub mod Values
pub mod Subroutines
pub mod Routines
