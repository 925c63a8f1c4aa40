pub mod Reading
pub mod SecondPass
pub mod Listings
