pub mod OneMemory
pub mod Bytes
pub mod Pairs
pub mod Shipped
pub mod PlacedWords
pub mod Begins
