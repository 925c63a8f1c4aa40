pub mod Blanks
pub mod Feeds
pub mod Names
pub mod Inside
pub mod Keys
pub mod WordKeys
pub mod OneToken
pub mod Registers
