pub mod Laws
pub mod Listings
pub mod OneTrace
