pub mod Listing
pub mod Modules
pub mod Law
pub mod Linking
