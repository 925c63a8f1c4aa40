pub mod Facts
pub mod Paths
pub mod AddressPieces
pub mod Ends
pub mod Ready
pub mod FoundPlaces
pub mod Transfers
pub mod Routines
