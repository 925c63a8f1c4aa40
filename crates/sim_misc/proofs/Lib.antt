pub mod Numbers
pub mod Paths
pub mod Exchanges
pub mod Dispatch
pub mod RandomNumbers
pub mod Borders
pub mod Fills
