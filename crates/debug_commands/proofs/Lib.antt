mod Listed
mod ListLaws
mod Ends
mod Shelved
mod ShelfUse
pub mod Laws
pub mod CountEnds
pub mod StepsEnds
