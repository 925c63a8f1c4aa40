pub use Rattle.list_defs.specs.Lists
