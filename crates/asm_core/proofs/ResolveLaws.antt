-- Lines that are assembled one after the other.
use Rattle.std.proofs.Common.{◌≡◌, ℕ, List, [], ◌∷◌, Ok, Err, refl, sym, ap, subst, ◌∙◌}
use Rattle.std.specs.Prelude.{Result}
use Rattle.std.proofs.lemmas.List.{length-replicate}
use Rattle.expression_defs.specs.declared.causes.ExprError.TheVariants as expr
use Rattle.source_defs.specs.Refusals.{Refusal, ◌>>=◌}
use Rattle.source_defs.specs.Orders.{onto}
use Rattle.expression_defs.specs.Symbols.{Names, look_up}
use Rattle.expression_defs.specs.Layout.{assembled_lines}
use Rattle.object_defs.specs.Modules.{Reference}
use Rattle.instruction_defs.specs.declared.causes.FormError.TheVariants as form
use Rattle.asm_defs.specs.declared.causes.AsmCause.{AsmCause}
use Rattle.asm_defs.specs.declared.causes.AsmCause.TheVariants as cause
use Rattle.asm_defs.specs.declared.location.Location.{Location}
use Rattle.asm_defs.specs.Locations.{Line, place}
use Rattle.asm_defs.specs.Statements.{Statement}
use Rattle.asm_defs.specs.SecondChecks.{Outcome, outcome}
use Rattle.asm_defs.specs.Memory.{AssembledLine}
use Rattle.asm_defs.specs.Modules.{assembled_line, with_room}
use Rattle.asm_defs.specs.Growing.{declared_size, held_place}
use Rattle.asm_checks.specs.Answers.{Fails}
use Rattle.asm_checks.specs.declared.failure.Failure.{Failure}
use Rattle.asm_checks.specs.declared.failure.Failure.TheVariants.{Refused, Memory}
use Rattle.module_image.specs.ResolvedLines.{AreAllResolved, FillsPlace, SamePlaces}
use Rattle.module_image.proofs.SwapLaws.{room_same, room_filled}
use Rattle.asm_core.specs.Building.{IsOf, refusal_at}
use Rattle.asm_core.specs.Resolving.{IsOutput, IsResolved, pending_outcome}
use Rattle.asm_core.specs.Finishing.{RefusesAt}
use Rattle.asm_core.specs.declared.second_pass.Output.{Output}
use Rattle.asm_core.specs.declared.error.AsmError.{AsmError}
use Rattle.asm_core.specs.declared.error.AsmError.TheVariants as error
use Rattle.asm_core.specs.declared.pending.Pending.{Pending}

module _ (known : Names) where
  pub assembled_more : (before : List Line) (line : Line) (done : List AssembledLine) (found : AssembledLine) → assembled_lines (assembled_line known) before ≡ Ok done
      → assembled_line known before done line ≡ Ok found → assembled_lines (assembled_line known) (line ∷ before) ≡ Ok (found ∷ done)
  assembled_more before line done found e f = rw e (rw f refl)

  pub assembled_stops : (before : List Line) (line : Line) (done : List AssembledLine) (cause : AsmCause) → assembled_lines (assembled_line known) before ≡ Ok done
      → assembled_line known before done line ≡ Err cause → assembled_lines (assembled_line known) (line ∷ before) ≡ Err (record { line = line.number; cause = cause })
  assembled_stops before line done cause e f = rw e (rw f refl)

  pub assembled_stopped : (rest before : List Line) (refusal : Refusal AsmCause) → assembled_lines (assembled_line known) before ≡ Err refusal
      → assembled_lines (assembled_line known) (onto before rest) ≡ Err refusal
  assembled_stopped [] before refusal e = e
  assembled_stopped (line ∷ rest) before refusal e = assembled_stopped rest (line ∷ before) refusal (rw e refl)

  -- what the second checks say of a line that waits
  pub answer_is : (before : List Line) (line : Line) (pending : Pending) → IsOf before line pending
      → pending_outcome known pending ≡ outcome (look_up known) (place before line) line.statement
  answer_is before line pending is =
      rw (is.parsed, is.at) refl

  pub assemble_by : (before : List Line) (line : Line) (done : List AssembledLine) (answer : Result Outcome AsmCause)
      → outcome (look_up known) (place before line) line.statement ≡ answer
      → assembled_line known before done line ≡ (answer >>= λ found. with_room done (record { at = place before line; outcome = found }))
  assemble_by before line done answer e = ap (λ answer. answer >>= λ found. with_room done (record { at = place before line; outcome = found })) e

  room_by : (before : List Line) (line : Line) (first second : List AssembledLine) → SamePlaces first second → (answer : Result Outcome AsmCause)
      → (answer >>= λ found. with_room first (record { at = place before line; outcome = found }))
      ≡ (answer >>= λ found. with_room second (record { at = place before line; outcome = found }))
  room_by before line first second same (Ok found) = room_same first second same (record { at = place before line; outcome = found })
  room_by before line first second same (Err cause) = refl

  -- only the places of the lines before count
  pub assemble_same : (before : List Line) (line : Line) (first second : List AssembledLine) → SamePlaces first second
      → assembled_line known before first line ≡ assembled_line known before second line
  assemble_same before line first second same = room_by before line first second same (outcome (look_up known) (place before line) line.statement)

  -- a line that waited, at the place that was held for it
  module _ (unused : List Reference) (before : List Line) (line : Line) (pending : Pending) (is : IsOf before line pending) (old new : Output)
      (assembled_by : IsResolved unused known pending old new) where
    abbrev pub real : AssembledLine
    real = record { at = pending.at; outcome = assembled_by.found }

    abbrev are_statements : Statement → Statement → Type 0
    are_statements a b = a ≡ b

    same_statements : are_statements assembled_by.statement line.statement
    same_statements = let both : Ok assembled_by.statement ≡ Ok line.statement = sym assembled_by.parsed ∙ is.parsed in cc both

    pub fills_place : FillsPlace (held_place (place before line) line.statement) real
    fills_place = record {
      at = is.at;
      size = assembled_by.size ∙ (ap declared_size same_statements ∙ sym (length-replicate (declared_size line.statement) 0));
    }

    pub comes_there : outcome (look_up known) (place before line) line.statement ≡ Ok assembled_by.found
    comes_there =
        sym (answer_is before line pending is)
        ∙ (ap (λ parsed. parsed >>= outcome (look_up known) pending.at) assembled_by.parsed ∙ assembled_by.comes)

    pub assemble_filled : (done : List AssembledLine)
        → assembled_line known before done line ≡ (with_room done (held_place (place before line) line.statement) >>= λ held. Ok real)
    assemble_filled done =
        assemble_by before line done (Ok assembled_by.found) comes_there
        ∙ (ap (λ (at : Location). with_room done (record { at = at; outcome = assembled_by.found })) (sym is.at)
        ∙ room_filled done (held_place (place before line) line.statement) real fills_place)

    pub fills_held : (done others : List AssembledLine) (held : AssembledLine) → held ≡ held_place (place before line) line.statement → AreAllResolved (held ∷ done) others
        → IsOutput unused done (held ∷ others) old → IsOutput unused (real ∷ done) others new
    fills_held done others held same resolved output =
        assembled_by.fills done others held resolved (subst (λ (held : AssembledLine). FillsPlace held real) (sym same) fills_place) output

-- a failure at a line refuses the whole
pub refuses_by : {A B : Type 0} (failure : Failure) (number : ℕ) (answer : Result A AsmCause) (whole : Result B (Refusal AsmCause)) → Fails failure answer
    → ((refused : AsmCause) → answer ≡ Err refused → whole ≡ Err (record { line = number; cause = refused })) → RefusesAt (refusal_at number failure) whole
refuses_by Memory number answer whole fails goes = tt
refuses_by (Refused (cause.Expr expr.Memory)) number answer whole fails goes = absurd fails
refuses_by (Refused (cause.Form form.Memory)) number answer whole fails goes = absurd fails
refuses_by (Refused (cause.Form (form.Expr expr.Memory))) number answer whole fails goes = absurd fails
refuses_by _ number answer whole fails goes = goes _ fails

-- a refusal goes on
pub refuses_on : {A B : Type 0} (refused : AsmError) (defined : Result A (Refusal AsmCause)) (whole : Result B (Refusal AsmCause))
    → ((refusal : Refusal AsmCause) → defined ≡ Err refusal → whole ≡ Err refusal) → RefusesAt refused defined → RefusesAt refused whole
refuses_on error.Memory defined whole goes refuses = tt
refuses_on (error.At line (cause.Expr expr.Memory)) defined whole goes refuses = absurd refuses
refuses_on (error.At line (cause.Form form.Memory)) defined whole goes refuses = absurd refuses
refuses_on (error.At line (cause.Form (form.Expr expr.Memory))) defined whole goes refuses = absurd refuses
refuses_on _ defined whole goes refuses = goes _ refuses
