pub mod AppendedChanges
pub mod Eight
pub mod Neighbours
