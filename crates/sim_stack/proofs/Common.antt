-- The names that the proofs of this family cite, passed on from one place. Declares nothing.
pub use Rattle.std.proofs.Common.{◌==◌, ◌≡◌, ◌≤◌, ap, arith, false, refl, subst, sym, true, ℕ}
pub use Rattle.sim_rows.proofs.sim_view.Routines.{comes_by, Ends, ends_in, exit_then, exits_by, first, regroup, shown}
pub use Rattle.sim_rows.proofs.sim_operands.Ends.{goes_at, stays}
pub use Rattle.sim_rows.specs.sim_operands.Routines.{CanLoad, CanStore, load, on_at, store}
pub use Rattle.sim_rows.proofs.Common.{at_most, even, FETCHB, is_turn_end, IsVisible, off, on, TAKE, View, view}
pub use Rattle.sim_stack.proofs.Ways.{goes_then, keeps, room, stopped}
pub use Rattle.sim_stack.specs.Rows.{CanStoreBoth, fetch_stacked, load_stacked, locate_stacked, row, set_aside, turn_at}
pub use Rattle.sim_stack.specs.Rows.{clear_and_go}
unfoldable pub use Rattle.sim_stack.specs.Rows.{call_on, called, end_fetch, fetch_on, fetched, pushed}
unfoldable pub use Rattle.sim_stack.specs.Rows.{returned}
unfoldable pub use Rattle.sim_rows.specs.Routines.{end_row, finish_row}
unfoldable pub use Rattle.sim_jumps.specs.Routines.{resume_row}
pub use Rattle.sim_rows.specs.Prelude.{HasStarted, jump, plain, ShowsEnd}
pub use Rattle.sim_stack.specs.Family.{is_stack, is_stack_row}
pub use Rattle.sim_rows.proofs.StepStart.{one_at_most}
pub use Rattle.sim_rows.specs.Pieces.{address_before, at_first}
pub use Rattle.sim_rows.specs.sim_operands.Pieces.{fetch, one_if, seek}
pub use Rattle.sim_rows.specs.sim_view.Routines.{◌>>?◌, ◌>>◌}
pub use Rattle.sim_rows.proofs.Routines.{request_store_first, load_first, row_ends, row_finishes, store_first}
pub use Rattle.sim_rows.proofs.RowViews.{row_is, row_view, seen_with}
pub use Rattle.sim_stack.specs.Pieces.{request_byte, find_next, keep_next, keep_byte, keep_stacked_next, store_fetched}
pub use Rattle.sim_stack.specs.Pieces.{store_next, call_offset, offset_of, pointer_at, return_offset, shows_at}
pub use Rattle.sim_stack.specs.Pieces.{full}
unfoldable pub use Rattle.sim_stack.specs.Pieces.{if_room}
pub use Rattle.sim_jumps.proofs.Jumps.{row_resumes}
