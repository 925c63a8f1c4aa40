pub use Rattle.sim_view.specs.tms_defs as tms_defs
pub use Rattle.sim_view.specs.console_defs as console_defs
pub use Rattle.sim_view.specs.source_defs as source_defs
pub use Rattle.sim_view.specs.gpl_defs as gpl_defs
pub use Rattle.sim_view.specs.gpl_step_defs as gpl_step_defs
pub use Rattle.sim_view.specs.native_interp as native_interp
pub use Rattle.sim_view.specs.interp_defs as interp_defs
pub use Rattle.sim_view.specs as sim_view
pub use Rattle.sim_operands.specs as sim_operands
pub mod Pieces
pub mod States
pub mod Rows
pub mod Results
pub mod Routines
pub mod Prelude
