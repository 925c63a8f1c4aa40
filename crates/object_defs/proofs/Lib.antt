pub mod Conjunctions
pub mod FieldsAgain
pub mod Characters
pub mod FirstLine
pub mod ModuleCount
