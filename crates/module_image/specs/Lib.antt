pub mod Tables
pub mod Holding
pub mod Images
pub mod ResolvedLines
