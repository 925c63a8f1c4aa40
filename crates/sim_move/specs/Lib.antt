pub mod Pieces
pub mod Rows
pub mod Family
pub mod Moves
pub mod CopyPieces
pub mod Copying
pub mod Bytes
