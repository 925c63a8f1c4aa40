-- The changes of a step can be written.
use Rattle.std.proofs.Common.{◌≡◌, ℕ, suc, ◌+◌, ◌^◌, ◌<◌, ◌≤◌, Bool, true, cond, nat_eq, ◌&&◌, List, [], ◌∷◌, length}
use Rattle.std.proofs.Common.{refl, arith}
use Rattle.std.specs.Prelude.{slice_index}
use Rattle.std.proofs.lemmas.Bool.Decides.{nat_tests}
use Rattle.tms_defs.specs.Bytes.{HoldsBytes}
use Rattle.gpl_step_defs.specs.State.{GplState, IsState}
use Rattle.report_defs.specs.Trace.{seen_state}
use Rattle.change_defs.specs.declared.part.Part.{Part}
use Rattle.change_defs.specs.declared.part.Part.TheVariants.{Cells, Video, Registers}
use Rattle.change_defs.specs.Changes.{Change, joined, changes_from, changes}
use Rattle.change_defs.specs.Steps.{step_changes}
use Rattle.change_defs.specs.Text.{size_of}
use Rattle.debug_report_defs.proofs.Digits.{cond_both}
use Rattle.debug_report_defs.proofs.TextRead.{AllFit, FitSteps}

-- a change is inside of a size, and has a byte
pub record Inside (size : ℕ) (c : Change) : Type 0 where
  pub byte : c.byte < 256
  pub some : 0 < c.count
  pub end : c.at + c.count ≤ size

abbrev pub AllInside : ℕ → List Change → Type 0
AllInside size [] = Unit {0}
AllInside size (c ∷ cs) = Inside size c × AllInside size cs

joined_inside : (size at byte : ℕ) (cs : List Change) → byte < 256 → at + 1 ≤ size → AllInside size cs → AllInside size (joined at byte cs)
joined_inside size at byte [] is_byte le all = (record { byte = is_byte; some = omega arith; end = le }, tt)
joined_inside size at byte (c ∷ cs) is_byte le all = by (nat_eq c.at (at + 1)) (nat_eq c.byte byte) refl
  where
    by : (next same : Bool) → nat_eq c.at (at + 1) ≡ next
        → AllInside size (cond (next && same) (record { at = at; byte = byte; count = c.count + 1 } ∷ cs) (record { at = at; byte = byte; count = 1 } ∷ c ∷ cs))
    by true true e =
        let place : c.at ≡ at + 1 = grind (arith, nat_tests) in
        (record { byte = is_byte; some = omega arith; end = omega (arith, all.0.end, place) }, all.1)
    by _ _ e = (record { byte = is_byte; some = omega arith; end = le }, all)

pub changes_inside : (size at : ℕ) (before after : List ℕ) → ((k : ℕ) → slice_index after k < 256) → at + length after ≤ size
    → AllInside size (changes_from at before after)
changes_inside size at (x ∷ before) (y ∷ after) fits le =
    let rest = changes_inside size (at + 1) before after (λ k. fits (suc k)) (omega arith) in
    cond_both (AllInside size) (nat_eq x y) _ _ rest (joined_inside size at y _ (fits 0) (omega arith) rest)
changes_inside size at _ _ fits le = tt

small : (part : Part) → size_of part < 2 ^ 64
small Cells = omega arith
small _ = omega arith

all_fit : (part : Part) (cs : List Change) → AllInside (size_of part) cs → AllFit part cs
all_fit part [] all = tt
all_fit part (c ∷ cs) all =
    let i = all.0 in
    let less = small part in
    (record { byte = i.byte; at = omega (arith, i.some, i.end); count = omega (arith, i.end, less) }, all_fit part cs all.1)

part_fits : (part : Part) (before after : List ℕ) → HoldsBytes (size_of part) after → AllFit part (changes before after)
part_fits part before after holds =
    all_fit part (changes before after)
    (changes_inside (size_of part) 0 before after holds.fits (let size = holds.size in omega (arith, size)))

pub steps_fit : (s next : GplState) → IsState next → FitSteps (step_changes (seen_state s) (seen_state next))
steps_fit s next is =
    record {
      cells = part_fits Cells s.cells next.cells is.cells;
      vdp = part_fits Video s.vdp next.vdp is.vdp;
      registers = part_fits Registers s.registers next.registers is.registers;
    }
