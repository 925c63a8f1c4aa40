pub mod Numbers
pub mod Paths
pub mod RowFacts
pub mod Products
pub mod Quotients
pub mod Ways
pub mod Meaning
pub mod Common
