-- The tests of the status, from their dispatch to the end of the step.
use Rattle.std.proofs.Common.{ℕ, ◌<◌, ◌==◌, ◌∙◌, ◌≡◌, ap, arith, Bool, false, List, Ok, Option, refl, Result, slice_index, Some, subst, true}
use Rattle.sim_rows.proofs.Common.{after, AtDispatch, after_code, bound, bound_at, bound_by, CARRY, Changes, code_byte, ReachesWithin, comes, CTRUE, executed, Exits}
use Rattle.sim_rows.proofs.Common.{finished, Goes, GplOperation, GplRead, GplState, GT, H, is_turn_end, is_set, is_view, IsView, join, last_out, low, MachineState}
use Rattle.sim_rows.proofs.Common.{matches, bound_to_dispatch, operation_entry, operation_in, operation_in_view, OVF, Plain, PlainOp, reaches}
use Rattle.sim_rows.proofs.Common.{from_dispatch, read_by, Reason, shifted, ShowsState, SLA, state_at_dispatch, status_of, step, Stepped, Turned, turned_by, unchanged}
use Rattle.sim_rows.proofs.Common.{View, view, with_tested}
use Rattle.sim_rows.specs.Prelude.{CARRY_BIT, GREATER_BIT, HIGHER_BIT, OVERFLOW_BIT}
use Rattle.sim_rows.proofs.Steps.{reading_is}
use Rattle.sim_compare.specs.Pieces.{end_of}
use Rattle.sim_compare.specs.Family.{ending, is_test, IsDecided, test}
use Rattle.sim_compare.proofs.Numbers.{bit_out_1, bit_out_2, bit_out_4, bit_out_5}
use Rattle.sim_compare.proofs.Comparisons.{is_decided, decides, decided_goes}
use Rattle.sim_compare.specs.Pieces as pieces

-- The bit of the status that a test reads.
abbrev pub tested : Option GplOperation → ℕ
tested (Some (Plain H)) = HIGHER_BIT
tested (Some (Plain GT)) = GREATER_BIT
tested (Some (Plain CARRY)) = CARRY_BIT
tested (Some (Plain OVF)) = OVERFLOW_BIT
tested operation = 0

-- ---- the operations

starts : (o : Option GplOperation) → is_test o ≡ true → is_turn_end (operation_entry o) ≡ false
starts (Some (Plain H)) e = refl
starts (Some (Plain GT)) e = refl
starts (Some (Plain CARRY)) e = refl
starts (Some (Plain OVF)) e = refl
starts _ e = absurd (cc)

-- ---- the step of a test, and its bound

abbrev read_as : GplState → Option GplOperation → GplRead
read_as s o = read_by o (code_byte s) s.image (after_code s)

step_as : (s : GplState) (o : Option GplOperation) → operation_in s ≡ o → step s ≡ executed (read_as s o) s
step_as s o is = ap (λ (r : GplRead). executed r s) (reading_is s ∙ ap (read_as s) is)

abbrev changed : GplState → Option GplOperation → Changes
changed s o = with_tested (tested o) (unchanged (record s { pc = after_code s }))

step_is : (s : GplState) (o : Option GplOperation) → is_test o ≡ true → operation_in s ≡ o → step s ≡ Ok (finished (changed s o))
unfolding after
step_is s (Some (Plain H)) e is = step_as s (Some (Plain H)) is
step_is s (Some (Plain GT)) e is = step_as s (Some (Plain GT)) is
step_is s (Some (Plain CARRY)) e is = step_as s (Some (Plain CARRY)) is
step_is s (Some (Plain OVF)) e is = step_as s (Some (Plain OVF)) is
step_is s _ e is = absurd (cc)

bound_as : (s : GplState) (o : Option GplOperation) → is_test o ≡ true → bound_at (read_as s o) s ≡ 440
bound_as s (Some (Plain H)) e = refl
bound_as s (Some (Plain GT)) e = refl
bound_as s (Some (Plain CARRY)) e = refl
bound_as s (Some (Plain OVF)) e = refl
bound_as s _ e = absurd (cc)

bound_is : (s : GplState) (o : Option GplOperation) → is_test o ≡ true → operation_in s ≡ o → bound s ≡ 440
bound_is s o e is =
    ap (λ (r : Result GplState Reason). bound_by r s) (step_is s o e is)
    ∙ ap (λ (r : GplRead). bound_at r s) (reading_is s ∙ ap (read_as s) is)
    ∙ bound_as s o e

-- ---- the pieces

sees_still : (s : GplState) (next n : ℕ) (v : View) → ShowsState s next v → ShowsState s next (record v { r = record v.r { r4 = n } })
sees_still s next n v h = record { cells = h.cells; vdp = h.vdp; registers = h.registers; held = h.held; grom = h.grom }

abbrev word_in : View → ℕ
word_in v = join (slice_index v.cells 0x7C) (low v.r.r4)

-- the bit that is shifted out is the state's
shows : (places bit : ℕ) (s : GplState) (next : ℕ) (v : View) → ShowsState s next v → last_out SLA (word_in v) places ≡ is_set (slice_index v.cells 0x7C) bit →
    Goes (pieces.test_bit places v) 4 (end_of (is_set (status_of s) bit)) (ShowsState s next)
shows places bit s next v h is =
    let b = is ∙ ap (λ (cells : List ℕ). is_set (slice_index cells 0x7C) bit) h.cells in
    let g : Goes (pieces.test_bit places v) 4 (end_of (last_out SLA (word_in v) places)) (ShowsState s next) =
    decided_goes 3 4 4 (last_out SLA (word_in v) places) (record v { r = record v.r { r4 = shifted SLA (word_in v) places } }) (omega arith) (omega arith)
    (sees_still s next (shifted SLA (word_in v) places) v h) in
    subst (λ (c : Bool). Goes (pieces.test_bit places v) 4 (end_of c) (ShowsState s next)) b g

less_fits : (n : ℕ) → low n < 256
less_fits n = omega arith

tests : (o : Option GplOperation) → is_test o ≡ true → (s : GplState) (next : ℕ) (v : View) → ShowsState s next v → IsView v →
    Goes (test o v) 4 (end_of (is_set (status_of s) (tested o))) (ShowsState s next)
tests (Some (Plain H)) e s next v h i = shows 1 0x80 s next v h (bit_out_1 (slice_index v.cells 0x7C) (low v.r.r4) (i.cells 0x7C) (less_fits v.r.r4))
tests (Some (Plain GT)) e s next v h i = shows 2 0x40 s next v h (bit_out_2 (slice_index v.cells 0x7C) (low v.r.r4) (i.cells 0x7C) (less_fits v.r.r4))
tests (Some (Plain CARRY)) e s next v h i = shows 4 0x10 s next v h (bit_out_4 (slice_index v.cells 0x7C) (low v.r.r4) (i.cells 0x7C) (less_fits v.r.r4))
tests (Some (Plain OVF)) e s next v h i = shows 5 0x08 s next v h (bit_out_5 (slice_index v.cells 0x7C) (low v.r.r4) (i.cells 0x7C) (less_fits v.r.r4))
tests _ e s next v h i = absurd (cc)

module _ {x a : MachineState} {t u : ℕ} (name : PlainOp) (is : operation_in_view (view x) ≡ Some (Plain name))
    (at : AtDispatch is_test x) (first : Exits x a t u (test (Some (Plain name)) (view x))) where
  abbrev s : GplState
  s = state_at_dispatch (view x)

  abbrev o : Option GplOperation
  o = Some (Plain name)

  e : is_test o ≡ true
  e = subst (λ (p : Option GplOperation). is_test p ≡ true) is at.family

  abbrev flag : Bool
  flag = is_set (status_of s) (tested o)

  at_flag : ReachesWithin 4 x a t u (end_of flag) (ShowsState s (after_code s))
  at_flag = comes first (tests o e s (after_code s) (view x) at.dispatched.sees (is_view x at.is_at.machine))

  pub test_decided : IsDecided a
  test_decided = is_decided a flag at_flag.is_at

  pub test_turns : {y : MachineState} {v : ℕ} → Exits a y u v (ending (a.cpu.pc == CTRUE) (view a)) → Turned s x y (from_dispatch t v) Stepped
  test_turns {y = y} {v = v} second =
      let next = finished (changed s o) in
      let c = decides 4 s (after_code s) flag at_flag second in
      let b = bound_is s o e is in
      turned_by x y t v bound_to_dispatch Stepped s (Ok next) (step_is s o e is) (
        refl,
        reaches bound_to_dispatch (bound s) c (ap is_turn_end at.is_at.pc ∙ ap (λ (p : Option GplOperation). is_turn_end (operation_entry p)) is ∙ starts o e) refl
            (omega arith),
        matches next y c.is_at c.holds,
      )
