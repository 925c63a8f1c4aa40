pub mod Kept
pub mod WatchedRuns
