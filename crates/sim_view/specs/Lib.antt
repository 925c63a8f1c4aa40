pub use Rattle.base_defs.specs as base_defs
pub use Rattle.tms_defs.specs as tms_defs
pub use Rattle.console_defs.specs as console_defs
pub use Rattle.source_defs.specs as source_defs
pub use Rattle.gpl_defs.specs as gpl_defs
pub use Rattle.gpl_step_defs.specs as gpl_step_defs
pub use Rattle.native_interp.specs as native_interp
pub use Rattle.interp_defs.specs as interp_defs
pub mod View
pub mod Exits
pub mod Routines
pub mod Running
pub mod Bounds
pub mod Prelude
