pub mod NameLaws
pub mod Ends
pub mod ShelfUse
pub mod Laws
