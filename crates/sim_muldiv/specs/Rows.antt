-- MUL and DIV, from their rows to the end of the step: the pieces one after the other, as the code has them.
use Rattle.std.specs.Prelude.{◌*◌, ◌+◌, ◌==◌, ◌≡◌, ◌≤◌, if◌then◌else◌, nat_lt, IsTrue}
use Rattle.sim_rows.specs.Prelude.{DIV, DIVBY, DIVW, Exit, exit, GplOperation, GSTEP, low, MUL, OVER, size_of, Two}
use Rattle.sim_rows.specs.Prelude.{View, VISIBLE_CELLS, width_in}
use Rattle.sim_rows.specs.sim_view.Routines.{◌>>◌}
use Rattle.sim_rows.specs.sim_operands.Routines.{load, store}
use Rattle.sim_rows.specs.Routines.{end_row, finish_row}
use Rattle.sim_muldiv.specs.Pieces as piece

unfoldable pub byte_product : View → Exit
byte_product v = piece.multiply_bytes v >> finish_row

unfoldable pub word_product : View → Exit
word_product v = piece.multiply_words v >> store >> piece.low_product >> finish_row

unfoldable pub product : View → Exit
product v = if v.r.r3 == 1 then byte_product v else word_product v

unfoldable pub end_division : View → Exit
end_division v = piece.store_last v >> store >> piece.clear_overflow >> end_row

unfoldable pub byte_quotient : View → Exit
byte_quotient v = piece.divide_bytes v >> end_division

abbrev pub load_and_divide : View → Exit
load_and_divide v = piece.load_low_word v >> load >> piece.divide_words

unfoldable pub store_quotient : View → Exit
store_quotient v = store v >> piece.take_remainder >> end_division

unfoldable pub word_quotient : View → Exit
word_quotient v = load_and_divide v >> store_quotient

-- the three ways of the piece that compares
unfoldable pub quotient : View → Exit
quotient v =
    if nat_lt v.r.r9 v.r.r6
    then (if v.r.r3 == 1 then exit 4 DIVBY v >> byte_quotient else exit 4 DIVW v >> word_quotient)
    else exit 2 OVER v >> piece.set_overflow

-- by the operation; a row of another family is not spoken of
abbrev pub row : GplOperation → View → Exit
row (Two MUL) v = product v
row (Two DIV) v = quotient v
row _ v = exit 0 GSTEP v

-- Two values of the width in register 3 are visible at the place in registers 7 and 8.
abbrev pub AreVisible : View → Type 0
AreVisible v = v.r.r8 ≡ 0 → v.r.r7 + 2 * size_of (width_in v.r.r3) ≤ VISIBLE_CELLS

-- What a row needs of its view: both values are visible, and the divisor, where it is a byte, is left-justified.
pub record IsReady (v : View) : Type 0 where
  pub visible : AreVisible v
  pub divisor : IsTrue (v.r.r3 == 1) → low v.r.r6 ≡ 0
