pub mod KnownLines
pub mod Texts
pub mod Laws
