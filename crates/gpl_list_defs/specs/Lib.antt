pub mod Rows
pub mod Text
pub mod Listing
pub mod Laws
