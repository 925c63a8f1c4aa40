pub mod Places
pub mod Hits
pub mod FirstHits
pub mod Changes
