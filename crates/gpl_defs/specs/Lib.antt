pub use Rattle.base_defs.specs.Addresses
pub use Rattle.base_defs.specs.Counts
pub mod Codes
pub mod Valid
pub mod Bytes
pub mod Spellings
pub mod Reading
pub mod Image
