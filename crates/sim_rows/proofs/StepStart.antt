-- From the beginning of a step to its dispatch.
use Rattle.std.proofs.Common.{ℕ, ◌+◌, ◌<◌, ◌==◌, ◌∙◌, ◌≡◌, ◌≤◌, ap, arith, Bool, eqb, false, if◌then◌else◌, List, refl, slice_index, subst, sym}
use Rattle.std.proofs.Common.{true}
use Rattle.std.proofs.lemmas.Bool.{agree_below_at, eqb-false, eqb-true}
use Rattle.std.proofs.Math.Nat.{pos_of_ne-zero}
use Rattle.sim_view.proofs.Common.{comes, Goes, pick}
use Rattle.sim_rows.specs.Prelude.{ReachesWithin, Dispatched, even, Exit, exit, Exits, GplState, grom_at, GromState, INTERP, MachineState, next_in_grom, operation_at}
use Rattle.sim_rows.specs.Prelude.{low, operation_entry, past, return_of, ShowsState, with_grom_address, shifted, SLA, View, view}
use Rattle.sim_operands.proofs.Ready.{set_is}
use Rattle.sim_operands.specs.Pieces.{one_if}
use Rattle.sim_view.proofs.Routines.{just}
use Rattle.sim_rows.specs.Pieces as pieces
use Rattle.sim_view.specs.interp_defs.Interpreter.{bound_to_dispatch}

-- the first table's word for each code byte is the address of its instruction, and even
abbrev leads : ℕ → Bool
leads code = eqb (even (slice_index INTERP (pieces.first_entry + code))) (operation_entry (operation_at code))

entry_is : (code : ℕ) → code < 256 → even (slice_index INTERP (pieces.first_entry + code)) ≡ operation_entry (operation_at code)
entry_is code h =
    eqb-true (even (slice_index INTERP (pieces.first_entry + code))) (operation_entry (operation_at code)) (agree_below_at leads (λ _. true) 256 code refl h)

-- the address before the counter
pub back_is : (at : ℕ) → at < 65536 → pieces.address_before (next_in_grom at) ≡ at
back_is at h =
    pick (pieces.at_first (next_in_grom at))
    (λ c. let e : shifted SLA (next_in_grom at) 3 ≡ 0 = eqb-true (shifted SLA (next_in_grom at) 3) 0 c in rw (c, pieces.address_before) (omega arith))
    (λ c. let e : 0 < shifted SLA (next_in_grom at) 3 = pos_of_ne-zero (eqb-false (shifted SLA (next_in_grom at) 3) 0 c) in rw (c, pieces.address_before)
    (omega arith))

pub one_at_most : (b : Bool) → one_if b ≤ 1
one_at_most true = omega arith
one_at_most false = omega arith

-- how many instructions more the test takes
tested_at_most : (counter : ℕ) → pieces.tested counter ≤ 4
tested_at_most counter = by (low counter == 0) (pieces.at_first counter)
  where
    by : (a b : Bool) → (if a then 3 + one_if b else 0) ≤ 4
    by true true = omega arith
    by true false = omega arith
    by false b = omega arith

pub from : (f : View → Exit) {most to : ℕ} {Q : View → Type 0} {u w : View} → u ≡ w → Goes (f w) most to Q → Goes (f u) most to Q
from f {most = most} {to = to} {Q = Q} is g = subst (λ (v : View). Goes (f v) most to Q) (sym is) g

pub known : {d e : Exit} {most to : ℕ} {Q : View → Type 0} → d ≡ e → Goes e most to Q → Goes d most to Q
known {most = most} {to = to} {Q = Q} is g = subst (λ (e : Exit). Goes e most to Q) (sym is) g

-- GROMs whose counter was read
abbrev pub lost : List ℕ → ℕ → GromState
lost image at = pieces.read_once (pieces.read_once (grom_at image at))

-- what WHERE leaves: the address of the next byte
abbrev pub located_at : View → List ℕ → ℕ → View
located_at v image at = record v { r = record v.r { r4 = shifted SLA (next_in_grom at) 3; r6 = at }; grom = lost image at }

pub where_found : (v : View) (image : List ℕ) (at : ℕ) → v.grom ≡ grom_at image at → at < 65536 →
    Goes (pieces.where_next v) 8 (return_of v) (λ w. w ≡ located_at v image at)
where_found v image at e fits =
    let by : GromState → Exit = λ g. pieces.where_next (record v { grom = g }) in
    let to : ℕ → Exit = λ n. exit (7 + one_if (pieces.at_first (next_in_grom at))) (return_of v)
    (record (located_at v image at) { r = record (located_at v image at).r { r6 = n } }) in
    known (ap by e ∙ ap to (back_is at fits))
    (just (to at) 8 (return_of v) (let one = one_at_most (pieces.at_first (next_in_grom at)) in omega arith) refl)

module _ (s : GplState) (v : View) (sees : ShowsState s s.pc v) (fits : s.pc < 65536) (byte : slice_index s.image s.pc < 256) where
  abbrev code : ℕ
  code = slice_index s.image s.pc

  -- the dispatch by the address of the code byte and GROMs that give it
  abbrev by_code : ℕ → GromState → Exit
  by_code at set =
      let entry = slice_index INTERP (pieces.first_entry + set.fetched) in
      exit (12 + pieces.tested (next_in_grom s.pc)) (even entry)
      (record v { r = record v.r { r0 = set.fetched; r1 = at; r4 = entry }; grom = past set })

  dispatch_is : pieces.dispatch v ≡ by_code s.pc (grom_at s.image s.pc)
  dispatch_is =
      let by : GromState → Exit = λ g. pieces.dispatch (record v { grom = g }) in
      let to : ℕ → Exit = λ at. by_code at (with_grom_address at (lost s.image s.pc)) in
      ap by sees.grom ∙ ap to (back_is s.pc fits) ∙ ap (by_code s.pc) (set_is (lost s.image s.pc) s.pc refl fits)

  begun : Goes (by_code s.pc (grom_at s.image s.pc)) bound_to_dispatch (operation_entry (operation_at code)) (Dispatched s)
  begun = record {
    within = let most = tested_at_most (next_in_grom s.pc) in omega arith;
    to_is = entry_is code byte;
    holds = record {
      sees = record { cells = sees.cells; vdp = sees.vdp; registers = sees.registers; held = sees.held; grom = refl };
      code = refl;
      address = refl;
    };
  }

  -- The step up to its dispatch.
  pub begins : (x y : MachineState) (t u : ℕ) → view x ≡ v → Exits x y t u (pieces.dispatch (view x)) →
      ReachesWithin bound_to_dispatch x y t u (operation_entry (operation_at code)) (Dispatched s)
  begins x y t u is e = comes e (from pieces.dispatch is (known dispatch_is begun))
