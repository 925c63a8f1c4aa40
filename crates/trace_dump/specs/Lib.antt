pub mod FirstChanges
pub mod Plays
