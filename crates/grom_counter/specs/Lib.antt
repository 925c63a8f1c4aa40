pub use Rattle.tms_defs.specs.Words
pub use Rattle.tms_defs.specs.Bytes
pub use Rattle.console_defs.specs.Grom
