-- RAND from its dispatch to the end of the step.
use Rattle.std.proofs.Common.{ℕ, ◌%◌, ◌+◌, ◌∙◌, ◌≡◌, ap, arith, List, Ok, refl, slice_index, slice_set, Some}
use Rattle.sim_rows.proofs.Common.{after_code, bound, bound_made, comes, comes_then, Dispatched, drawn, Exits, finished, from, Goes, GORAND, GplState}
use Rattle.sim_rows.proofs.Common.{GromState, GSTEP, is_turn_end, just, MachineState, matches, bound_to_dispatch, next_in_grom, next_seed, operation_in, past, RAND}
use Rattle.sim_rows.proofs.Common.{from_dispatch, RANDL, RANDOM, reaches, SEED, ShowsState, IsAt, step_byte, Stepped, swapped, Turned, turned_by, unchanged, View, view}
use Rattle.sim_rows.proofs.Common.{with_word_in, word_in}
use Rattle.sim_rows.specs.gpl_defs.declared.instruction.GplOperation.TheVariants.{Byte}
use Rattle.sim_rows.specs.gpl_step_defs.Place.{word_at}
use Rattle.sim_misc.proofs.Numbers.{seed_is}
use Rattle.sim_misc.specs.Pieces as pieces

-- the cells by the next seed and the limit
abbrev drawn_cells : List ℕ → ℕ → ℕ → List ℕ
drawn_cells cells seed limit = slice_set (with_word_in cells SEED seed) RANDOM (swapped seed % (limit + 1))

abbrev next : GplState → GplState
next s = finished (drawn (slice_index s.image (after_code s)) (unchanged (record s { pc = next_in_grom (after_code s) })))

drawn_goes : (s : GplState) (v : View) → Dispatched s v → Goes (pieces.draw_number (pieces.draw_seed v).left) 8 GSTEP (ShowsState (next s) (next s).pc)
drawn_goes s v d =
    let h = d.sees in
    record {
      within = omega arith;
      to_is = refl;
      holds = record {
        cells = ap (λ (n : ℕ). drawn_cells v.cells n v.grom.fetched) (seed_is (word_in v.cells SEED))
            ∙ ap (λ (c : List ℕ). drawn_cells c (next_seed (word_in c SEED)) v.grom.fetched) h.cells
            ∙ ap (λ (g : GromState). drawn_cells s.cells (next_seed (word_at s SEED)) g.fetched) h.grom;
        vdp = h.vdp;
        registers = h.registers;
        held = h.held;
        grom = ap past h.grom;
      };
    }

pub draws : {s : GplState} {x a y : MachineState} {t u v : ℕ} → Dispatched s (view x) → operation_in s ≡ Some (Byte RAND) → IsAt x GORAND →
    Exits x a t u (pieces.draw_seed (view x)) → Exits a y u v (pieces.draw_number (view a)) → Turned s x y (from_dispatch t v) Stepped
draws {s = s} {x = x} {y = y} {t = t} {v = v} d is is_at first second =
    let c1 = comes first (just (pieces.draw_seed (view x)) 9 RANDL (omega arith) refl) in
    let c2 = comes_then 9 8 c1 second (from pieces.draw_number c1.holds (drawn_goes s (view x) d)) refl in
    let step_is = step_byte s RAND is in
    let b = bound_made s (next s) (Some (Byte RAND)) is step_is in
    turned_by x y t v bound_to_dispatch Stepped s (Ok (next s)) step_is
    (refl, reaches bound_to_dispatch (bound s) c2 (ap is_turn_end is_at.pc) refl (omega arith), matches (next s) y c2.is_at c2.holds)
