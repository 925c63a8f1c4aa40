-- The names that the answers of this family cite, passed on from one place. Declares nothing.
pub use Rattle.std.proofs.Common.{ℕ, ◌<◌, ◌==◌, ◌≡◌, ◌≤◌, ap, arith, false, refl, subst, true}
pub use Rattle.sim_rows.proofs.sim_view.Routines.{exit_then, exits_by, shown}
pub use Rattle.sim_rows.specs.sim_operands.Routines.{CanLoad, CanStore, load, store}
pub use Rattle.sim_rows.proofs.Common.{DIVBY, DIVQ, even, is_turn_end, off, on, OVER, IsAt, state_at_dispatch, View, view}
pub use Rattle.sim_muldiv.proofs.Ways.{multiplied_bytes, multiplied_words}
pub use Rattle.sim_muldiv.proofs.RowFacts.{first_visible, ready, second_visible, some_divisor, word_visible}
pub use Rattle.sim_muldiv.specs.Pieces.{clear_overflow, divide_words, low_product, set_overflow, take_remainder}
pub use Rattle.sim_muldiv.specs.Rows.{AreVisible}
unfoldable pub use Rattle.sim_rows.specs.Routines.{end_row, finish_row}
unfoldable pub use Rattle.sim_muldiv.specs.Rows.{byte_product, byte_quotient, end_division, product, quotient}
unfoldable pub use Rattle.sim_muldiv.specs.Rows.{store_quotient, word_product, word_quotient}
