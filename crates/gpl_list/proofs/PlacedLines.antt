-- A line that is placed after others.
use Rattle.std.proofs.Common.{◌≡◌, ℕ, ◌+◌, ◌≤◌, Bool, true, false, List, ◌∷◌, Option, None, Ok, Err, length, refl, sym, ap, ◌∙◌, arith}
use Rattle.std.specs.Prelude.{Result, if◌then◌else◌}
use Rattle.source_defs.specs.Refusals.{◌>>=◌}
use Rattle.expression_defs.specs.Symbols.{Names, look_up}
use Rattle.gpl_defs.specs.Image.{Image, placed}
use Rattle.gpl_source_defs.specs.declared.causes.GplCause.{GplCause}
use Rattle.gpl_source_defs.specs.declared.causes.GplCause.TheVariants.{Overlap}
use Rattle.gpl_source_defs.specs.declared.location.Location.{Location}
use Rattle.gpl_source_defs.specs.Statements.{Statement, declared_size}
use Rattle.gpl_source_defs.specs.FirstChecks.{parsed}
use Rattle.gpl_source_defs.specs.SecondChecks.{Outcome, outcome}
use Rattle.gpl_source_defs.specs.Programs.{AssembledLine, assembled_at, with_room, overlaps, image, bytes_in, entry_by}
use Rattle.gpl_source_defs.proofs.Sizes.{outcome_size}
use Rattle.gpl_asm.specs.Replay.{Built, put, line_outcome}
use Rattle.gpl_list_defs.specs.Rows as spec

-- the outcome of a line that says something
pub comes_to : (known : Names) (at : Location) (text : List ℕ) (statement : Statement) (answer : Result Outcome GplCause) → parsed known at text ≡ Ok statement
    → line_outcome known at text ≡ answer → outcome (look_up known) at statement ≡ answer
comes_to known at text statement answer parsed_line is = sym (ap (λ answer. answer >>= λ statement. outcome (look_up known) at statement) parsed_line) ∙ is

module _ (known : Names) (at : Location) (statement : Statement) (earlier : List AssembledLine) (found : Outcome)
    (came : outcome (look_up known) at statement ≡ Ok found) where
  abbrev line : AssembledLine
  line = record { at = at.number; outcome = found }

  abbrev full : Bool
  full = overlaps (image earlier) at.number (bytes_in found)

  assembled_by : assembled_at known at statement earlier ≡ with_room earlier line
  assembled_by = ap (λ answer. answer >>= λ found. with_room earlier (record { at = at.number; outcome = found })) came

  abbrev made : Built
  made = record { image = placed (image earlier) at.number (bytes_in found); entry = entry_by None found }

  abbrev put_by : Bool → Result Built GplCause
  put_by full = if full then Err Overlap else Ok made

  abbrev room_by : Bool → Result AssembledLine GplCause
  room_by full = if full then Err Overlap else Ok line

  put_ok : (full : Bool) (built : Built) → put_by full ≡ Ok built → (room_by full ≡ Ok line) × (made ≡ built)
  put_ok true built e = cc e
  put_ok false built e =
      let same : made ≡ built = cc e in
      (refl, same)

  put_err : (full : Bool) (cause : GplCause) → put_by full ≡ Err cause → room_by full ≡ Err cause
  put_err true cause e =
      let same : Overlap ≡ cause = cc e in
      ap Err same
  put_err false cause e = cc e

  pub fits : at.number + declared_size statement ≤ 65536 → at.number + length (bytes_in found) ≤ 65536
  fits le =
      let fills = outcome_size (look_up known) at statement found came in
      omega (arith, fills, le)

  abbrev empty_built : Image → Built
  empty_built to = record { image = to; entry = None }

  pub placed_there : (to left : Image) (after : Option ℕ) → to ≡ image earlier
      → put at found (empty_built to) ≡ Ok (record { image = left; entry = after })
      → (line : AssembledLine) × (assembled_at known at statement earlier ≡ Ok line) × (left ≡ image (line ∷ earlier))
  placed_there to left after same e =
      let e' : put_by full ≡ Ok (record { image = left; entry = after }) = ap (λ (to : Image). put at found (empty_built to)) (sym same) ∙ e in
      let b = put_ok full (record { image = left; entry = after }) e' in
      (line, assembled_by ∙ b.0, ap (λ (built : Built). built.image) (sym b.1))

  pub refused_there : (to : Image) (cause : GplCause) → to ≡ image earlier → put at found (empty_built to) ≡ Err cause
      → assembled_at known at statement earlier ≡ Err cause
  refused_there to cause same e =
      assembled_by ∙ put_err full cause (ap (λ (to : Image). put at found (empty_built to)) (sym same) ∙ e)

  pub bytes_there : spec.placed_bytes known at statement ≡ bytes_in found
  bytes_there = ap spec.outcome_bytes came
