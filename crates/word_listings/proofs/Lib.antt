pub mod Slots
pub mod Instructions
pub mod LineBacks
pub mod After
pub mod LastLines
pub mod ListingLaw
pub mod ShortLaw
pub mod LinkLaw
