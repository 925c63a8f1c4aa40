pub mod Status
pub mod Paths
pub mod Numbers
pub mod MadeResults
pub mod Frames
pub mod StoredResults
pub mod Dispatch
pub mod Bytes
