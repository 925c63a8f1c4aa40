pub use Rattle.base_defs.specs.Addresses
