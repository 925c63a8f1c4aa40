pub mod Progress
pub mod Followers
