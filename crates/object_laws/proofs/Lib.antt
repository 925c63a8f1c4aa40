pub mod ReaderRuns
pub mod Places
pub mod AddedGroups
pub mod Written
