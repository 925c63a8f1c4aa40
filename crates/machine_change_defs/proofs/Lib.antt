pub mod Keeping
pub mod Kept
pub mod Leaves
pub mod MemoryLead
pub mod ReportLaws
