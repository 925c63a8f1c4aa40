pub use Rattle.tms_defs.specs.Flags
pub use Rattle.tms_defs.specs.Shifts
pub use Rattle.tms_defs.specs.MultiplyDivide
pub use Rattle.tms_defs.specs.Instructions
