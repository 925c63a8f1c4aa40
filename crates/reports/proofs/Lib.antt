pub mod Listings
pub mod Answers
pub mod Runs
pub mod Streams
pub mod NoUsage
