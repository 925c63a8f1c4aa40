-- The line that is refused, after those that are assembled.
use Rattle.std.proofs.Common.{◌≡◌, ◌∷◌, [], Ok, Err, Some, None, List, sym, ap, subst, ◌∙◌}
use Rattle.source_defs.specs.Refusals.{◌>>=◌}
use Rattle.source_defs.specs.Orders.{onto}
use Rattle.expression_defs.specs.Symbols.{Names}
use Rattle.expression_defs.specs.Layout.{assembled_lines}
use Rattle.object_defs.specs.Modules.{Reference}
use Rattle.asm_defs.specs.declared.causes.AsmCause.{AsmCause}
use Rattle.asm_defs.specs.Locations.{Line, place}
use Rattle.asm_defs.specs.Memory.{AssembledLine}
use Rattle.asm_defs.specs.Modules.{assembled_line, with_room}
use Rattle.asm_defs.specs.Growing.{held_place}
use Rattle.asm_checks.specs.Answers.{Fails, Causes}
use Rattle.asm_checks.specs.declared.failure.Failure.{Failure}
use Rattle.asm_checks.specs.declared.failure.Failure.TheVariants as failure
use Rattle.asm_checks.proofs.Failures.{causes_on}
use Rattle.module_image.specs.ResolvedLines.{SamePlaces}
use Rattle.module_image.proofs.SwapLaws.{room_same}
use Rattle.asm_core.specs.declared.second_pass.Output.{Output}
use Rattle.asm_core.specs.declared.pending.Pending.{Pending}
use Rattle.asm_core.specs.declared.pending.Refused.{Refused}
use Rattle.asm_core.specs.Building.{Refuses, IsStopped, refusal_at}
use Rattle.asm_core.specs.Resolving.{IsResolved, pending_outcome}
use Rattle.asm_core.specs.Finishing.{RefusesAt}
use Rattle.asm_core.proofs.ResolveLaws.{assembled_stops, assembled_stopped, answer_is, assemble_by, assemble_same, assemble_filled, refuses_by, real}

module _ (known : Names) (lines : List Line) (waiting : List Pending) (refused : Refused) (is : IsStopped refused lines known waiting) (done : List AssembledLine)
    (so_far : assembled_lines (assembled_line known) (onto [] is.order) ≡ Ok done) (same : SamePlaces (onto [] is.founds) done) where
  abbrev before : List Line
  before = onto [] is.order

  abbrev held : AssembledLine
  held = held_place (place before is.line) is.line.statement

  refused_by : (cause : AsmCause) → assembled_line known before done is.line ≡ Err cause
      → assembled_lines (assembled_line known) lines ≡ Err (record { line = is.line.number; cause = cause })
  refused_by cause e =
      ap (assembled_lines (assembled_line known)) is.all
      ∙ assembled_stopped known is.later (is.line ∷ before) _ (assembled_stops known before is.line done cause so_far e)

  -- a value of the line is refused
  pub value_refused : (pending : Pending) → refused.waiting ≡ Some pending → (failure : Failure) → Fails failure (pending_outcome known pending)
      → RefusesAt (refusal_at pending.number failure) (assembled_lines (assembled_line known) lines)
  value_refused pending some failure fails =
      let refuses = subst (Refuses known before (onto [] is.founds) is.line refused.cause) some is.refuses in
      refuses_by failure pending.number (pending_outcome known pending) (assembled_lines (assembled_line known) lines) fails
      (λ cause e.
      refused_by cause (assemble_by known before is.line done (Err cause) (sym (answer_is known before is.line pending refuses.0) ∙ e))
      ∙ ap (λ number. Err (record { line = number; cause = cause })) (sym refuses.0.number))

  at_last : Causes refused.cause (assembled_line known before done is.line)
      → RefusesAt (refusal_at refused.line (failure.Refused refused.cause)) (assembled_lines (assembled_line known) lines)
  at_last causes =
      refuses_by (failure.Refused refused.cause) refused.line (assembled_line known before done is.line) (assembled_lines (assembled_line known) lines) causes
      (λ cause e. refused_by cause e ∙ ap (λ number. Err (record { line = number; cause = cause })) (sym is.number))

  -- its values are not, and it has no room
  pub still_refused : (unused : List Reference) (old new : Output) (pending : Pending) → refused.waiting ≡ Some pending
      → IsResolved unused known pending old new
      → RefusesAt (refusal_at refused.line (failure.Refused refused.cause)) (assembled_lines (assembled_line known) lines)
  still_refused unused old new pending some by =
      let refuses = subst (Refuses known before (onto [] is.founds) is.line refused.cause) some is.refuses in
      let room : with_room (onto [] is.founds) held ≡ with_room done held = room_same (onto [] is.founds) done same held in
      at_last
      (causes_on refused.cause (with_room (onto [] is.founds) held) (assembled_line known before done is.line) refuses.1
      (λ e.
      assemble_filled known unused before is.line pending refuses.0 old new by done
      ∙ ap (λ answer. answer >>= λ held. Ok (real known unused before is.line pending refuses.0 old new by)) (sym room ∙ e)))

  -- or no value of it was open
  pub refused_after : refused.waiting ≡ None → RefusesAt (refusal_at refused.line (failure.Refused refused.cause)) (assembled_lines (assembled_line known) lines)
  refused_after none =
      let refuses = subst (Refuses known before (onto [] is.founds) is.line refused.cause) none is.refuses in
      at_last (subst (Causes refused.cause) (assemble_same known before is.line (onto [] is.founds) done same) refuses.1)
