-- The names that the answers of this family cite, passed on from one place. Declares nothing.
pub use Rattle.std.proofs.Common.{◌∙◌, arith, refl, sym}
pub use Rattle.sim_rows.proofs.Common.{ADDR, GSTOP, is_view, MOVED, MOVEN, MOVER, off, on, view}
pub use Rattle.sim_rows.proofs.sim_operands.Ends.{goes_at, not_at, stays}
pub use Rattle.sim_rows.proofs.sim_view.Routines.{exit_then, shown}
pub use Rattle.sim_rows.specs.sim_operands.Routines.{CanLoad, load}
unfoldable pub use Rattle.sim_rows.specs.sim_operands.Routines.{find_operand}
pub use Rattle.sim_move.specs.Rows.{load_count}
unfoldable pub use Rattle.sim_move.specs.Rows.{find_in_memory, find_length, find_places, find_source, load_placed}
pub use Rattle.sim_move.proofs.Lengths.{asks_on, word_found}
