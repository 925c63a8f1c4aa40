pub mod Pieces
pub mod Family
pub mod Rows
