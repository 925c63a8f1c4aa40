pub mod Files
pub mod CopyLines
pub mod Copied
pub mod Assembly
pub mod Questions
pub mod Amounts
