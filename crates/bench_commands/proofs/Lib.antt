pub mod NoUsage
pub mod Ends
pub mod Programs
pub mod Laws
pub mod LoadedSources
pub mod Traces
pub mod Steadily
