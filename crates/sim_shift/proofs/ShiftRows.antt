-- The pieces of a shift, one after the other, to the end of the step.
use Rattle.std.proofs.Common.{ℕ, ◌<◌, ◌∙◌, ◌≡◌, ◌≤◌, ap, arith, Bool, eqb, false, not, refl, Some, subst, sym, true}
use Rattle.std.proofs.lemmas.Bool.{eqb-true}
use Rattle.sim_rows.proofs.Common.{AtRow, Changes, ReachesWithin, comes, comes_as, comes_on, comes_then, COUNT, count_of, even, Exits, gone_on, GplState, GSTEP, is_turn_end}
use Rattle.sim_rows.proofs.Common.{is_view, IsMachine, MachineState, operation_in, Place, return_of, row_result, row_width, SeesFinished, SeesResult, ShiftOp}
use Rattle.sim_rows.proofs.Common.{SLA, Source, SRA, SRC, SRL, IsAt, STO, StoresResult, Storing, Two, unchanged, value_at, View, view}
use Rattle.sim_shift.specs.Pieces.{low_four}
use Rattle.sim_shift.specs.Family.{name_of, shift_entry}
use Rattle.sim_shift.proofs.Shifts.{counted_word, counts_few, entry_even, Keeps, kept_of, none, number_by, shifts, some, stores_none, stores_some, HasCount}
use Rattle.sim_shift.proofs.Shifts.{count_at, count_taken, two_is}
use Rattle.sim_shift.specs.Pieces as pieces

not_false : (b : Bool) → not b ≡ false → b ≡ true
not_false true e = refl
not_false false e = absurd (cc)

not_true : (b : Bool) → not b ≡ true → b ≡ false
not_true true e = absurd (cc)
not_true false e = refl

entry_goes_on : (op : ShiftOp) → is_turn_end (shift_entry op) ≡ false
entry_goes_on SRA = refl
entry_goes_on SRL = refl
entry_goes_on SLA = refl
entry_goes_on SRC = refl

-- what a shift stores
abbrev pub number_of_row : ShiftOp → GplState → Place → Source → ℕ
number_of_row op s place source = number_by op (row_width s) (value_at s (row_width s) place) (count_of source.number)

abbrev pub StoringRow : ShiftOp → GplState → Place → Source → View → Type 0
StoringRow op s place source w = Storing (unchanged (gone_on s)) (row_width s) place (number_of_row op s place source) w

module _ (op : ShiftOp) {x y z : MachineState} {t u w : ℕ} (e1 : Exits x y t u (pieces.asking (shift_entry op) (view x)))
    (e2 : Exits y z u w (pieces.take_count (view y))) where
  pub keeps : Keeps (view x) (view z)
  keeps = ap kept_of (e2.shows ∙ count_taken (view y)) ∙ ap kept_of e1.shows

  pub shifted : {p : MachineState} {j : ℕ} → Exits z p w j (pieces.shifts op (view z)) → Keeps (view x) (view p)
  shifted e3 = ap kept_of e3.shows ∙ (shifts op (view z)).keeps ∙ keeps

  returns_to : return_of (view y) ≡ even (shift_entry op)
  returns_to = ap return_of e1.shows

  count_is : (view z).r.r0 ≡ low_four (counted_word (view y))
  count_is = ap (λ (v : View). v.r.r0) (e2.shows ∙ count_taken (view y))

  -- no count
  ends_at : not (eqb (pieces.take_count (view y)).to STO) ≡ false → (pieces.take_count (view y)).to ≡ STO
  ends_at e = eqb-true (pieces.take_count (view y)).to STO (not_false (eqb (pieces.take_count (view y)).to STO) e)

  pub at_none : not (eqb (pieces.take_count (view y)).to STO) ≡ false → IsAt z STO
  at_none e = subst (λ (n : ℕ). IsAt z n) (ends_at e) e2.is_at

  no_count : not (eqb (pieces.take_count (view y)).to STO) ≡ false → low_four (counted_word (view y)) ≡ 0
  no_count e = none (view y) (ends_at e) (ap (λ (n : ℕ). eqb n STO) returns_to ∙ (entry_even op).1)

  -- a count
  goes_to : not (eqb (pieces.take_count (view y)).to STO) ≡ true → (pieces.take_count (view y)).to ≡ shift_entry op
  goes_to e = (some (view y) (not_true (eqb (pieces.take_count (view y)).to STO) e)).0 ∙ returns_to ∙ (entry_even op).0

  pub at_some : not (eqb (pieces.take_count (view y)).to STO) ≡ true → IsAt z (shift_entry op)
  at_some e = subst (λ (n : ℕ). IsAt z n) (goes_to e) e2.is_at

  pub count_some : not (eqb (pieces.take_count (view y)).to STO) ≡ true → 0 < (view z).r.r0
  count_some e =
      let never = (some (view y) (not_true (eqb (pieces.take_count (view y)).to STO) e)).1 in
      let is = count_is in
      above (view z).r.r0 (λ zero. never (sym is ∙ zero))
    where
      above : (n : ℕ) → (n ≡ 0 → ⊥) → 0 < n
      above n never = omega arith

  pub count_few : (view z).r.r0 < 16
  count_few = let is = count_is in fits (counted_word (view y)) (view z).r.r0 is
    where
      fits : (word n : ℕ) → n ≡ low_four word → n < 16
      fits word n is = omega arith

  module _ (s : GplState) (place : Place) (source : Source) (known : operation_in s ≡ Some (Two (name_of op))) (a : AtRow s place source (view x))
      (h : IsMachine x) where
    has_count : HasCount s place source (pieces.take_count (view y)).left
    has_count = count_at op s place source (view x) (view y) known a (is_view x h) e1.shows

    asks : ReachesWithin 1 x y t u COUNT (λ v. v ≡ (pieces.asking (shift_entry op) (view x)).left)
    asks = comes e1 (record { within = omega arith; to_is = refl; holds = refl })

    finished_row : (q : MachineState) (k : ℕ) (most : ℕ) (p : MachineState) (j : ℕ) → most ≤ 16 → ReachesWithin most x p t j STO (StoringRow op s place source) →
        StoresResult p q j k →
        ReachesWithin 61 x q t k GSTEP (SeesResult (row_result (Two (name_of op)) s place source))
    finished_row q k most p j le c f =
        let width = row_width s in
        let d = comes_on most 45 c (f (unchanged (gone_on s)) width place (number_of_row op s place source) c.holds) refl in
        subst (λ (c : Changes). ReachesWithin 61 x q t k GSTEP (SeesFinished c)) (sym (two_is op width place (value_at s width place) source (unchanged (gone_on s))))
        (comes_as 61 _ d (omega arith) (λ v b. b))

    pub runs_none : (q : MachineState) (k : ℕ) → not (eqb (pieces.take_count (view y)).to STO) ≡ false → StoresResult z q w k →
        ReachesWithin 61 x q t k GSTEP (SeesResult (row_result (Two (name_of op)) s place source))
    runs_none q k e f =
        let zero : count_of source.number ≡ 0 = sym has_count.count ∙ ap (λ (v : View). v.r.r0) (count_taken (view y)) ∙ no_count e in
        let c = comes_then 1 8 asks e2 (record
        { within = counts_few (view y); to_is = ends_at e; holds = stores_none op s place source (pieces.take_count (view y)).left has_count zero }) refl in
        finished_row q k 9 z w (omega arith) c f

    pub runs_some : (p q : MachineState) (j k : ℕ) → not (eqb (pieces.take_count (view y)).to STO) ≡ true → Exits z p w j (pieces.shifts op (view z)) →
        StoresResult p q j k →
        ReachesWithin 61 x q t k GSTEP (SeesResult (row_result (Two (name_of op)) s place source))
    runs_some p q j k e e3 f =
        let c : ReachesWithin 9 x z t w (shift_entry op) (λ v. v ≡ (pieces.take_count (view y)).left) =
        comes_then 1 8 asks e2 (record { within = counts_few (view y); to_is = goes_to e; holds = refl }) refl in
        let d = shifts op (view z) in
        let at : HasCount s place source (view z) = subst (λ (v : View). HasCount s place source v) (sym e2.shows) has_count in
        let b : ReachesWithin 16 x p t j STO (StoringRow op s place source) =
        comes_then 9 7 c e3 (record { within = d.few; to_is = d.to_is; holds = stores_some op s place source (view z) at }) (entry_goes_on op) in
        finished_row q k 16 p j (omega arith) b f
