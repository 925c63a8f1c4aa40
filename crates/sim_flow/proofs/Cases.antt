-- CASE from its row to the end of the step.
use Rattle.std.proofs.Common.{ℕ, ◌*◌, ◌<◌, ◌==◌, ◌∙◌, ◌≡◌, ap, arith, Option, refl, Some, subst}
use Rattle.sim_rows.proofs.Common.{AtRow, bytes_by, CASE, CASEN, CASET, CASEV, ReachesWithin, comes, comes_on, comes_then, destination_bytes, Exit, exit, Exits, from}
use Rattle.sim_rows.proofs.Common.{Goes, GplOperation, GplState, grom_at, GromState, GSTEP, in_register, is_view, IsView, just, known, loaded_of, located_at}
use Rattle.sim_rows.proofs.Common.{lost, MachineState, bound_of_case_row, next_of, One, operation_in, Place, plus, reads_destination, return_of, row_result}
use Rattle.sim_rows.proofs.Common.{row_width, RunsRow, SEEK, ShowsState, SeesResult, set_is, size_of, Source, IsAt, sum_of, TAKE, value_at, View, view, WHERE}
use Rattle.sim_rows.proofs.Common.{where_found, Width, width_again, width_in, Word}
use Rattle.sim_jumps.specs.Jumps.{TakesBranch}
use Rattle.sim_rows.specs.sim_operands.Pieces as operands
use Rattle.sim_rows.specs.Pieces as rows
use Rattle.sim_flow.proofs.Numbers.{doubled_is, most_is, number_is, place_fits}
use Rattle.sim_flow.specs.Pieces as pieces

-- ---- where the two routines return to

pub at_target : {x a b : MachineState} {t t1 t2 : ℕ} → Exits x a t t1 (pieces.request_table (view x)) → Exits a b t1 t2 (rows.where_next (view a))
    → IsAt b CASEN
at_target {b = b} e1 e2 = subst (λ (p : ℕ). IsAt b p) (ap return_of e1.shows) e2.is_at

pub at_end : {b c d : MachineState} {t2 t3 t4 : ℕ} → Exits b c t2 t3 (pieces.find_branch (view b)) → Exits c d t3 t4 (operands.seek (view c)) → IsAt d CASET
at_end {d = d} e3 e4 = subst (λ (p : ℕ). IsAt d p) (ap return_of e3.shows) e4.is_at

-- ---- the number

loaded_is : (s : GplState) (place : Place) → operation_in s ≡ Some (One CASE) → loaded_of s place ≡ in_register (row_width s) (value_at s (row_width s) place)
loaded_is s place e =
    let bytes : destination_bytes s ≡ size_of (row_width s) = ap (λ (o : Option GplOperation). bytes_by o (row_width s)) e in
    ap (λ (w : Width). in_register w (value_at s w place)) (ap width_in bytes ∙ width_again (row_width s))

-- ---- the pieces

module _ (s : GplState) (place : Place) (source : Source) (v : View) (e : operation_in s ≡ Some (One CASE)) (row : AtRow s place source v) (i : IsView v) where
  abbrev number : ℕ
  number = value_at s (row_width s) place

  abbrev target : ℕ
  target = plus (next_of s) (2 * number)

  abbrev taken : GplState
  taken = record s { pc = target }

  fits : next_of s < 65536
  fits = place_fits (next_of s) (subst (λ (n : ℕ). n < 65536) (ap (λ (g : GromState). g.counter) row.holds.sees.grom) i.grom.counter)

  -- the view after each piece
  abbrev asked : View
  asked = (pieces.request_table v).left

  value_is : asked.r.r9 ≡ number
  value_is = number_is (row_width s) v.r.r3 v.r.r9 number row.holds.bytes_are (row.destination (ap reads_destination e) ∙ loaded_is s place e) (i.r 9)

  abbrev located : View
  located = located_at asked s.image (next_of s)

  where_is : Goes (rows.where_next asked) 8 CASEN (λ w. w ≡ located)
  where_is = where_found asked s.image (next_of s) row.holds.sees.grom fits

  abbrev targeted : View
  targeted = (pieces.find_branch located).left

  abbrev after_seek : View
  after_seek = record targeted { grom = grom_at s.image (next_of s) }

  seek_is : operands.seek targeted ≡ exit 3 CASET after_seek
  seek_is =
      let at : GromState → Exit = λ g. exit 3 CASET (record targeted { grom = g }) in
      ap at (set_is (lost s.image (next_of s)) (next_of s) refl fits)

  -- what holds at TAKE
  record AtTarget (w : View) : Type 0 where
    sees : ShowsState taken (next_of s) w
    to : w.r.r6 ≡ target

  ends : Goes (pieces.go_to_branch after_seek) 2 TAKE AtTarget
  ends =
      let h = row.holds.sees in
      record {
        within = omega arith;
        to_is = refl;
        holds = record {
          sees = record { cells = h.cells; vdp = h.vdp; registers = h.registers; held = h.held; grom = refl };
          to = ap (λ n. sum_of Word (sum_of Word n n) (next_of s)) value_is ∙ doubled_is number (next_of s);
        };
      }

  asks : Goes (pieces.request_table v) 4 WHERE (λ w. w ≡ asked)
  asks = just (pieces.request_table v) 4 WHERE (let m = most_is (v.r.r3 == 1) in omega arith) refl

  selects : {x a b c d f y : MachineState} {t t1 t2 t3 t4 t5 t6 : ℕ} → view x ≡ v → Exits x a t t1 (pieces.request_table (view x)) →
      Exits a b t1 t2 (rows.where_next (view a)) → Exits b c t2 t3 (pieces.find_branch (view b)) → Exits c d t3 t4 (operands.seek (view c)) →
      Exits d f t4 t5 (pieces.go_to_branch (view d)) → TakesBranch f y t5 t6 → ReachesWithin 25 x y t t6 GSTEP (SeesResult (row_result (One CASE) s place source))
  selects is e1 e2 e3 e4 e5 goes =
      let c1 = comes e1 (from pieces.request_table is asks) in
      let c2 = comes_then 4 8 c1 e2 (from rows.where_next c1.holds where_is) refl in
      let c3 = comes_then 12 3 c2 e3 (from pieces.find_branch c2.holds (just (pieces.find_branch located) 3 SEEK (omega arith) refl)) refl in
      let c4 = comes_then 15 3 c3 e4 (from operands.seek c3.holds (known seek_is (just (exit 3 CASET after_seek) 3 CASET (omega arith) refl))) refl in
      let c5 = comes_then 18 2 c4 e5 (from pieces.go_to_branch c4.holds ends) refl in
      comes_on 20 5 c5 (goes taken (next_of s) c5.holds.sees c5.holds.to) refl

pub runs : {x a b c d f y : MachineState} {t t1 t2 t3 t4 t5 t6 : ℕ} → IsAt x CASEV → Exits x a t t1 (pieces.request_table (view x)) →
    Exits a b t1 t2 (rows.where_next (view a)) → Exits b c t2 t3 (pieces.find_branch (view b)) → Exits c d t3 t4 (operands.seek (view c)) →
    Exits d f t4 t5 (pieces.go_to_branch (view d)) → TakesBranch f y t5 t6 → RunsRow (One CASE) bound_of_case_row x y t t6
runs {x = x} is_at e1 e2 e3 e4 e5 goes s place source e row is =
    selects s place source (view x) e row (is_view x is_at.machine) refl e1 e2 e3 e4 e5 goes
