-- DIV means the quotient and the remainder: on views alone.
use Rattle.std.proofs.Common.{ℕ, ◌%◌, ◌/◌, ◌<◌, ◌==◌, ◌∙◌, ◌≡◌, ap, arith, Bool, false, if◌then◌else◌, nat_lt, Ok, refl}
use Rattle.std.proofs.Common.{Some, subst, sym, true}
use Rattle.sim_rows.proofs.Common.{AtRow, further, Byte, Changes, DIV, DIVBY, divided, DIVW, double_at, double_word}
use Rattle.sim_rows.proofs.Common.{exit}
use Rattle.sim_rows.proofs.Common.{goes_in, gone_on, GplState, GSTEP, has_quotient, high, in_register, IsView, join}
use Rattle.sim_rows.proofs.Common.{bound_of_quotient_row, number_of_space, operands_of, operation_in, pick, Place}
use Rattle.sim_rows.proofs.Common.{place_is}
use Rattle.sim_rows.proofs.Common.{reads_destination, row_width, SeesFinished, Source, space_small, state_of, Storing}
use Rattle.sim_rows.proofs.Common.{storing_again, sum_of, swapped, Two, unchanged, value_at, value_same, View, Width}
use Rattle.sim_rows.proofs.Common.{with_byte, with_overflow, with_quotient, with_value, Word}
use Rattle.sim_rows.proofs.sim_view.Routines.{Ends, ends_in, first, regroup}
use Rattle.sim_rows.proofs.Routines.{request_store_first, load_first, loaded, row_ends, store_first}
use Rattle.sim_rows.proofs.RowViews.{asking, asks, row_view, seen_with}
use Rattle.sim_rows.specs.sim_view.Routines.{◌>>◌}
use Rattle.sim_rows.specs.sim_operands.Routines.{CanStore, load, store}
use Rattle.sim_rows.specs.Routines.{end_row}
use Rattle.sim_muldiv.specs.Family.{is_muldiv}
use Rattle.sim_muldiv.specs.Rows.{AreVisible, byte_quotient, end_division, quotient, store_quotient, word_quotient}
use Rattle.sim_muldiv.proofs.Numbers.{byte_divides, byte_fits, divisor_down, high_of, low_of, no_first_word}
use Rattle.sim_muldiv.proofs.Numbers.{quotient_fits, together, word_divides}
use Rattle.sim_muldiv.proofs.RowFacts.{byte_fits_at, first_visible, is_row_view, ready, second_visible, word_visible}
use Rattle.sim_muldiv.specs.Pieces as pieces

-- the last number is stored, and OVF is cleared
division_ends : {c : Changes} {width : Width} {place : Place} {number : ℕ} {v : View} → Storing c width place number v →
    v.r.r7 < 65536 → CanStore v →
    Ends (end_division v) 47 GSTEP (SeesFinished (with_overflow false (with_value width place number c)))
unfolding end_division
division_ends {c = c} {width = width} {place = place} {number = number} {v = v} h fits can =
    let left = (pieces.store_last v).left in
    let asks = storing_again c width place number v left h refl refl refl refl refl refl refl refl in
    request_store_first (pieces.store_last v) pieces.clear_overflow end_row asks fits can
    (λ r4 address byte. let w = seen_with (with_value width place number c) left r4 address byte in
    first (pieces.clear_overflow w) end_row
    (row_ends (with_overflow false (with_value width place number c)) (pieces.clear_overflow w).left
    (record { cells = refl; vdp = refl; registers = refl; held = refl; grom = refl; mark = refl })))

-- a quotient is stored, and the remainder after it
quotient_ends : (c : Changes) (place : Place) {quotient : ℕ} (u : View) → u.r.r9 ≡ quotient → place.address < 65536 →
    AreVisible (asking c Word place u) →
    Ends (store_quotient (asking c Word place u)) 64 GSTEP
    (SeesFinished (with_overflow false (with_quotient Word place quotient u.r.r10 c)))
unfolding store_quotient
quotient_ends c place {quotient = quotient} u value fits visible =
    let v = asking c Word place u in
    let half = with_value Word place quotient c in
    regroup (store v) pieces.take_remainder end_division
    (store_first (λ w. pieces.take_remainder w >> end_division) (asks c Word place u value) fits
    (first_visible v visible)
    (λ r4 address byte. let rest = pieces.take_remainder (seen_with half v r4 address byte) in
    first rest end_division (division_ends (asks half Word (further 2 place) rest.left refl) (omega arith)
    (second_visible v refl visible))))

-- the quotient and the remainder of bytes as one word
one_word : (place : Place) (quotient remainder : ℕ) (c : Changes) → remainder < 256 →
    with_value Word place (join quotient remainder) c ≡ with_quotient Byte place quotient remainder c
one_word place quotient remainder c h =
    ap (λ (n : ℕ). with_byte (further 1 place) n (with_byte place (high (join quotient remainder)) c))
    (low_of quotient remainder h)
    ∙ ap (λ (n : ℕ). with_byte (further 1 place) remainder (with_byte place n c)) (high_of quotient remainder h)

double_same : (s g : GplState) (width : Width) (place : Place) → s.cells ≡ g.cells → s.vdp ≡ g.vdp →
    double_at s width place ≡ double_at g width place
double_same s g Byte place e f = value_same s g Word place e f
double_same s g Word place e f =
    ap (λ (k : ℕ). double_word k (value_at s Word (further 2 place))) (value_same s g Word place e f)
    ∙ ap (λ (k : ℕ). double_word (value_at g Word place) k) (value_same s g Word (further 2 place) e f)

module _ (s : GplState) (place : Place) (divisor : ℕ) (u : View) where
  abbrev at : Width → View
  at width = row_view s place divisor (value_at s Word place) width u

  abbrev c : Changes
  c = unchanged (gone_on s)

  abbrev Divides : Width → Type 0
  Divides width =
      let dividend = double_at s width place in
      IsView (at width) → AreVisible (at width) → has_quotient width dividend divisor ≡ true → Ends
      (if (at width).r.r3 == 1
      then exit 4 DIVBY (at width) >> byte_quotient
      else exit 4 DIVW (at width) >> word_quotient) 91 GSTEP
      (SeesFinished (with_overflow false (with_quotient width place (dividend / divisor) (dividend % divisor) c)))

  divides_by : (width : Width) → Divides width
  unfolding byte_quotient word_quotient
  divides_by Byte i visible has =
      let v = at Byte in
      let dividend = value_at s Word place in
      let fits = quotient_fits Byte dividend divisor has in
      let small = byte_fits divisor (i.r 6) in
      let some = fits.0 in
      let rest : dividend % divisor < 256 = omega arith in
      let words : ℕ → ℕ → ℕ = λ n m. sum_of Word (swapped (n / m)) (n % m) in
      let value = ap (λ (m : ℕ). words (double_word 0 dividend) m) (divisor_down divisor small)
      ∙ ap (λ (n : ℕ). words n divisor) (no_first_word dividend)
      ∙ together (dividend / divisor) (dividend % divisor) fits.1 rest in
      let stores = asks c Word place (pieces.divide_bytes v).left value in
      ends_in (exit 4 DIVBY v >> byte_quotient)
      (subst (λ (k : Changes). Ends (exit 4 DIVBY v >> byte_quotient) 59 GSTEP (SeesFinished (with_overflow false k)))
      (one_word place (dividend / divisor) (dividend % divisor) c rest)
      (first (exit 4 DIVBY v) byte_quotient
      (first (pieces.divide_bytes v) end_division (division_ends stores (i.r 7) (word_visible v visible)))))
      (omega arith)
  divides_by Word i visible has =
      let v = at Word in
      let ask = pieces.load_low_word v in
      let dividend = double_at s Word place in
      let loads : double_word (value_at s Word place) (loaded ask.left 0 0 0).r.r6 ≡ dividend =
      ap (λ (k : Place). double_word (value_at s Word place) (value_at (state_of v) Word k)) (place_is (further 2 place))
      ∙ ap (double_word (value_at s Word place)) (value_same (state_of v) s Word (further 2 place) refl refl) in
      let onward : (r4 address byte : ℕ) →
      Ends (pieces.divide_words (loaded ask.left r4 address byte) >> store_quotient) 67 GSTEP
      (SeesFinished (with_overflow false (with_quotient Word place (dividend / divisor) (dividend % divisor) c))) =
      λ r4 address byte. subst
      (λ (k : ℕ). Ends (pieces.divide_words (loaded ask.left r4 address byte) >> store_quotient) 67 GSTEP
      (SeesFinished (with_overflow false (with_quotient Word place (dividend / divisor) k c))))
      (ap (λ (n : ℕ). n % divisor) loads)
      (let divided = pieces.divide_words (loaded ask.left r4 address byte) in
      first divided store_quotient (quotient_ends c place divided.left (ap (λ (n : ℕ). n / divisor) loads)
      (i.r 7) visible)) in
      first (exit 4 DIVW v) word_quotient (regroup (ask >> load) pieces.divide_words store_quotient
      (regroup ask load (λ w. pieces.divide_words w >> store_quotient)
      (first ask (λ w. load w >> (λ q. pieces.divide_words q >> store_quotient))
      (load_first ask.left (λ w. pieces.divide_words w >> store_quotient) refl
      (space_small place.space (number_of_space place.space) refl) (omega arith)
      (second_visible v refl visible) onward))))

  -- the comparison finds whether a quotient fits
  fits_is : (width : Width) → IsView (at width) →
      nat_lt (value_at s Word place) (in_register width divisor) ≡ has_quotient width (double_at s width place) divisor
  fits_is Byte i = byte_divides (value_at s Word place) divisor
  fits_is Word i =
      let a = byte_fits_at (at Word) i s refl refl (further 2 place) in
      let b = byte_fits_at (at Word) i s refl refl (further 1 (further 2 place)) in
      word_divides (value_at s Word place) (value_at s Word (further 2 place)) divisor (omega arith)

  made : Width → Bool → Changes
  made width has =
      let dividend = double_at s width place in
      if has then with_overflow false (with_quotient width place (dividend / divisor) (dividend % divisor) c)
      else with_overflow true c

  ends_by : (width : Width) → IsView (at width) → AreVisible (at width) → Ends (quotient (at width)) 91 GSTEP
      (SeesFinished (divided width place (double_at s width place) divisor c))
  unfolding quotient made
  ends_by width i visible =
      pick (nat_lt (value_at s Word place) (in_register width divisor))
      (λ b. let has = sym (fits_is width i) ∙ b in
      subst (λ (k : Bool). Ends (quotient (at width)) 91 GSTEP (SeesFinished (made width k))) (sym has)
      (rw b (divides_by width i visible has)))
      (λ b. let none = sym (fits_is width i) ∙ b in
      subst (λ (k : Bool). Ends (quotient (at width)) 91 GSTEP (SeesFinished (made width k))) (sym none)
      (rw b (λ bytes. goes_in (omega arith)
      (record { cells = refl; vdp = refl; registers = refl; held = refl; grom = refl }))))

pub divides : (s : GplState) (place : Place) (source : Source) (v : View) → IsView v → operation_in s ≡ Some (Two DIV) →
    AtRow s place source v →
    operands_of s ≡ Ok (place, source) → Ends (quotient v) bound_of_quotient_row GSTEP
    (SeesFinished (divided (row_width s) place (double_at (gone_on s) (row_width s) place) source.number
    (unchanged (gone_on s))))
divides s place source v i is row operands =
    let e = is_row_view s place source v (ap is_muldiv is) row (ap reads_destination is) in
    let means : View → ℕ → Type 0 = λ w k. Ends (quotient w) 91 GSTEP
    (SeesFinished (divided (row_width s) place k source.number (unchanged (gone_on s)))) in
    subst (λ (w : View). means w (double_at (gone_on s) (row_width s) place)) (sym e)
    (subst (means (row_view s place source.number (value_at s Word place) (row_width s) v))
    (double_same s (gone_on s) (row_width s) place refl refl)
    (ends_by s place source.number v (row_width s) (subst IsView e i)
    (subst AreVisible e (ready s place source v (ap is_muldiv is) row operands).visible)))
