pub use Rattle.tms_defs.specs.Words
pub use Rattle.tms_defs.specs.Bytes
pub use Rattle.console_defs.specs.Vdp
pub use Rattle.console_defs.specs.Grom
pub use Rattle.tms_defs.specs.Accesses
pub use Rattle.console_defs.specs.Memory
