-- BR and BS from their dispatch to the end of the step.
use Rattle.std.proofs.Common.{ℕ, ◌%◌, ◌<◌, ◌∙◌, ◌≡◌, ◌≤◌, ap, arith, Bool, false, if◌then◌else◌, List, not, Ok, refl, slice_index, slice_set, Some, subst, true}
use Rattle.sim_rows.proofs.Common.{after_code, bound, bound_made, BRANCH, Branch, branched, BTARG, Byte, CFALSE, Changes, code_byte, ReachesWithin, comes, comes_on}
use Rattle.sim_rows.proofs.Common.{comes_then, condition, Dispatched, exclusive_or_of, Exits, finished, Goes, goes_in, GplState, GromState, GSTEP, high}
use Rattle.sim_rows.proofs.Common.{in_grom_of, is_turn_end, is_set, is_taken, is_view, IsView, join, last_out, MachineState, matches, bound_to_dispatch, next_in_grom}
use Rattle.sim_rows.proofs.Common.{from_dispatch, ones_cleared, operation_in, past, reaches, SeesFinished, ShowsState, SRL, IsAt, step_branch, Stepped, TAKE, Turned, turned_by}
use Rattle.sim_rows.proofs.Common.{unchanged, View, view, with_condition}
use Rattle.sim_jumps.specs.Jumps.{TakesBranch}
use Rattle.sim_compare.specs.Pieces as compare
use Rattle.sim_flow.proofs.Numbers.{on_is, target_is, tested_by}
use Rattle.sim_flow.specs.Pieces as pieces

-- the address after the instruction, and the target
abbrev next_after : GplState → ℕ
next_after s = next_in_grom (after_code s)

abbrev target : GplState → ℕ
target s = in_grom_of s.pc (join (code_byte s % 32) (slice_index s.image (after_code s)))

-- After the target.
record Targeted (s : GplState) (w : View) : Type 0 where
  sees : ShowsState s (next_after s) w
  to : w.r.r6 ≡ target s

abbrev made_of : View → ℕ → ℕ → ℕ → ℕ
made_of v byte code address =
    let w : View = record v { r = record v.r { r0 = code; r1 = address }; grom = record v.grom { fetched = byte } } in
    (pieces.read_branch_target w).left.r.r6

targets : (s : GplState) (v : View) → Dispatched s v → IsView v → Goes (pieces.read_branch_target v) 8 TAKE (Targeted s)
targets s v d i =
    let h = d.sees in
    let fetched : v.grom.fetched ≡ slice_index s.image (after_code s) = ap (λ (g : GromState). g.fetched) h.grom in
    let byte = subst (λ (n : ℕ). n < 256) fetched i.grom.fetched in
    let fits : s.pc < 65536 = subst (λ (n : ℕ). n < 65536) d.address (i.r 1) in
    goes_in (omega arith) (record {
      sees = record { cells = h.cells; vdp = h.vdp; registers = h.registers; held = h.held; grom = ap past h.grom };
      to =
          ap (λ n. made_of v n v.r.r0 v.r.r1) fetched
          ∙ ap (λ n. made_of v (slice_index s.image (after_code s)) n v.r.r1) d.code
          ∙ ap (λ n. made_of v (slice_index s.image (after_code s)) (code_byte s) n) d.address
          ∙ target_is (code_byte s) (slice_index s.image (after_code s)) s.pc byte fits;
    })

-- where the test leads, and what holds there
abbrev end_of : Bool → ℕ
end_of true = BTARG
end_of false = CFALSE

abbrev left_by : GplState → Bool → View → Type 0
left_by s true = Dispatched s
left_by s false = ShowsState s (next_after s)

taken_at : (taken : Bool) (pc : ℕ) → pc ≡ end_of taken → pc ≡ BTARG → taken ≡ true
taken_at true pc e f = refl
taken_at false pc e f = absurd (omega arith)

passed_at : (taken : Bool) (pc : ℕ) → pc ≡ end_of taken → (pc ≡ BTARG → ⊥) → taken ≡ false
passed_at true pc e f = absurd (f e)
passed_at false pc e f = refl

abbrev word_in : View → ℕ
word_in v = exclusive_or_of (join (high v.r.r4) (slice_index v.cells 0x7C)) v.r.r0

tests : (s : GplState) (v : View) (taken : Bool) → Dispatched s v → last_out SRL (word_in v) 6 ≡ not taken →
    Goes (pieces.test_branch v) 5 (end_of taken) (left_by s taken)
tests s v true d e =
    let h = d.sees in
    rw e (goes_in (omega arith) (record {
      sees = record { cells = h.cells; vdp = h.vdp; registers = h.registers; held = h.held; grom = h.grom };
      code = d.code;
      address = d.address;
    }))
tests s v false d e =
    let h = d.sees in
    rw e (goes_in (omega arith) (record { cells = h.cells; vdp = h.vdp; registers = h.registers; held = h.held; grom = ap past h.grom }))

-- ---- what a branch changes

abbrev passed : GplState → GplState
passed s = record s { pc = next_after s }

abbrev changed_by : GplState → Bool → Changes
changed_by s taken = with_condition false (if taken then unchanged (record s { pc = target s }) else unchanged (passed s))

-- it is passed
abbrev status_cleared : List ℕ → List ℕ
status_cleared cells = slice_set cells 0x7C (ones_cleared Byte (slice_index cells 0x7C) 0x20)

passes : (s : GplState) (w : View) → ShowsState s (next_after s) w → Goes (compare.clear_condition w) 3 GSTEP (SeesFinished (changed_by s false))
passes s w h = goes_in (omega arith) (record { cells = ap status_cleared h.cells; vdp = h.vdp; registers = h.registers; held = h.held; grom = h.grom })

module _ {s : GplState} {x a : MachineState} {t t1 : ℕ} (on : Bool) (is : operation_in s ≡ Some (Branch on))
    (is_at : IsAt x BRANCH) (d : Dispatched s (view x)) (e1 : Exits x a t t1 (pieces.test_branch (view x))) where
  abbrev taken : Bool
  taken = is_taken on (condition s)

  code_fits : code_byte s < 256
  code_fits = subst (λ (l : List ℕ). slice_index l s.pc < 256) (ap (λ (g : GromState). g.image) d.sees.grom) ((is_view x is_at.machine).grom.image.fits s.pc)

  tested : ReachesWithin 5 x a t t1 (end_of taken) (left_by s taken)
  tested =
      let bit = ap (λ (n : ℕ). last_out SRL n 6) d.code ∙ on_is (code_byte s) code_fits on is in
      let holds = ap (λ (cells : List ℕ). is_set (slice_index cells 0x7C) 0x20) d.sees.cells in
      comes e1 (tests s (view x) taken d (tested_by (high (view x).r.r4) (slice_index (view x).cells 0x7C) (view x).r.r0 on (condition s) bit holds))

  turns : {y : MachineState} {t2 most : ℕ} (c : Bool) → taken ≡ c → ReachesWithin most x y t t2 GSTEP (SeesFinished (changed_by s c)) → most ≤ 18 →
      Turned s x y (from_dispatch t t2) Stepped
  turns {y = y} {t2 = t2} c e run le =
      let same : branched on (target s) (unchanged (passed s)) ≡ changed_by s c = ap (changed_by s) e in
      let step_is = step_branch s on is ∙ ap (λ (c : Changes). Ok (finished c)) same in
      let m = bound_made s (finished (changed_by s c)) (Some (Branch on)) is step_is in
      turned_by x y t t2 bound_to_dispatch Stepped s (Ok (finished (changed_by s c))) step_is
      (refl, reaches bound_to_dispatch (bound s) run (ap is_turn_end is_at.pc) refl (omega arith), matches (finished (changed_by s c)) y run.is_at run.holds)

  -- what holds where it ended
  left_at : (c : Bool) → taken ≡ c → ReachesWithin 5 x a t t1 (end_of c) (left_by s c)
  left_at c e = subst (λ (c : Bool). ReachesWithin 5 x a t t1 (end_of c) (left_by s c)) e tested

  pub at_target : a.cpu.pc ≡ BTARG → ReachesWithin 5 x a t t1 BTARG (Dispatched s)
  at_target here = left_at true (taken_at taken a.cpu.pc tested.is_at.pc here)

  pub passed_by : (a.cpu.pc ≡ BTARG → ⊥) → ReachesWithin 5 x a t t1 CFALSE (ShowsState s (next_after s))
  passed_by elsewhere = left_at false (passed_at taken a.cpu.pc tested.is_at.pc elsewhere)

  pub takes : {b y : MachineState} {t2 t3 : ℕ} → a.cpu.pc ≡ BTARG → Exits a b t1 t2 (pieces.read_branch_target (view a)) → TakesBranch b y t2 t3 →
      Turned s x y (from_dispatch t t3) Stepped
  takes {b = b} here e2 goes =
      let c1 = at_target here in
      let c2 = comes_then 5 8 c1 e2 (targets s (view a) c1.holds (is_view a c1.is_at.machine)) refl in
      let h = c2.holds.sees in
      let seen : ShowsState (record s { pc = target s }) (next_after s) (view b) =
      record { cells = h.cells; vdp = h.vdp; registers = h.registers; held = h.held; grom = h.grom } in
      let is_true = taken_at taken a.cpu.pc tested.is_at.pc here in
      turns true is_true (comes_on 13 5 c2 (goes (record s { pc = target s }) (next_after s) seen c2.holds.to) refl) (omega arith)

  pub passes_on : {y : MachineState} {t2 : ℕ} → (a.cpu.pc ≡ BTARG → ⊥) → Exits a y t1 t2 (compare.clear_condition (view a))
      → Turned s x y (from_dispatch t t2) Stepped
  passes_on elsewhere e2 =
      let c1 = passed_by elsewhere in
      turns false (passed_at taken a.cpu.pc tested.is_at.pc elsewhere) (comes_then 5 3 c1 e2 (passes s (view a) c1.holds) refl) (omega arith)
