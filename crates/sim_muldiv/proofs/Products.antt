-- MUL means the product: on views alone.
use Rattle.std.proofs.Common.{ℕ, ◌*◌, ◌/◌, ◌∙◌, ◌≡◌, ap, arith, Ok, refl, Some, subst, sym}
use Rattle.sim_rows.proofs.Common.{AtRow, further, Byte, byte_at, Changes, gone_on, GplState, GSTEP, IsView}
use Rattle.sim_rows.proofs.Common.{bound_of_product_row, MUL, operands_of, operation_in, Place, reads_destination}
use Rattle.sim_rows.proofs.Common.{row_width}
use Rattle.sim_rows.proofs.Common.{SeesFinished, Source, Two, unchanged, value_at, View, Width, with_double, with_value}
use Rattle.sim_rows.proofs.Common.{Word}
use Rattle.sim_rows.proofs.sim_view.Routines.{Ends, ends_in, first}
use Rattle.sim_rows.proofs.Routines.{request_store_first, row_finishes}
use Rattle.sim_rows.proofs.RowViews.{asks, row_view, seen_with}
use Rattle.sim_rows.specs.Routines.{finish_row}
use Rattle.sim_muldiv.specs.Family.{is_muldiv}
use Rattle.sim_muldiv.specs.Rows.{AreVisible, byte_product, product, word_product}
use Rattle.sim_muldiv.proofs.Numbers.{byte_product as byte_product_is, high_of}
use Rattle.sim_muldiv.proofs.RowFacts.{byte_fits_at, first_visible, is_row_view, ready, second_visible, word_visible}
use Rattle.sim_muldiv.specs.Pieces as pieces

module _ (s : GplState) (place : Place) (source : ℕ) (u : View) where
  abbrev at : Width → View
  at width = row_view s place source (value_at s Word place) width u

  abbrev c : Changes
  c = unchanged (gone_on s)

  abbrev Means : Width → Type 0
  Means width = IsView (at width) → AreVisible (at width) → Ends (product (at width)) bound_of_product_row GSTEP
      (SeesFinished (with_double width place (value_at s width place * source) c))

  multiplies_by : (width : Width) → Means width
  unfolding product byte_product word_product
  multiplies_by Byte i visible =
      let value = byte_product_is (value_at s Word place) source (i.r 9) ∙ ap (λ (n : ℕ). n * source)
      (high_of (byte_at s place) (byte_at s (further 1 place))
      (byte_fits_at (at Byte) i s refl refl (further 1 place))) in
      let stores = asks c Word place (pieces.multiply_bytes (at Byte)).left value in
      ends_in (byte_product (at Byte))
      (first (pieces.multiply_bytes (at Byte)) finish_row
      (row_finishes stores (i.r 7) (word_visible (at Byte) visible)))
      (omega arith)
  multiplies_by Word i visible =
      let number = value_at s Word place * source in
      let left = (pieces.multiply_words (at Word)).left in
      let half = with_value Word place (number / 65536) c in
      request_store_first (pieces.multiply_words (at Word)) pieces.low_product finish_row (asks c Word place left refl)
      (i.r 7) (first_visible (at Word) visible)
      (λ r4 address byte. let low_word = pieces.low_product (seen_with half left r4 address byte) in
      first low_word finish_row (row_finishes (asks half Word (further 2 place) low_word.left refl) (omega arith)
      (second_visible (at Word) refl visible)))

pub multiplies : (s : GplState) (place : Place) (source : Source) (v : View) → IsView v →
    operation_in s ≡ Some (Two MUL) → AtRow s place source v →
    operands_of s ≡ Ok (place, source) → Ends (product v) bound_of_product_row GSTEP
    (SeesFinished (with_double (row_width s) place (value_at s (row_width s) place * source.number)
    (unchanged (gone_on s))))
multiplies s place source v i is row operands =
    let e = is_row_view s place source v (ap is_muldiv is) row (ap reads_destination is) in
    subst (λ (w : View). Ends (product w) bound_of_product_row GSTEP
    (SeesFinished (with_double (row_width s) place (value_at s (row_width s) place * source.number)
    (unchanged (gone_on s))))) (sym e)
    (multiplies_by s place source.number v (row_width s) (subst IsView e i)
    (subst AreVisible e (ready s place source v (ap is_muldiv is) row operands).visible))
