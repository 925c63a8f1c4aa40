pub use Rattle.base_defs.specs.Addresses
pub mod Vdp
pub mod Grom
pub mod Memory
pub mod Machine
pub mod Causes
pub mod Runs
