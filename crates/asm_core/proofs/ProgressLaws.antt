-- The lines that wait, assembled one after the other.
use Rattle.std.proofs.Common.{◌≡◌, ℕ, suc, ◌+◌, ◌<◌, List, [], ◌∷◌, Ok, Err, length, get_or, drop, refl, sym, ap, subst, ◌∙◌, arith}
use Rattle.std.proofs.Math.Seq.{drop-cons}
use Rattle.source_defs.specs.Refusals.{◌>>=◌}
use Rattle.source_defs.specs.Orders.{onto}
use Rattle.expression_defs.specs.Symbols.{Names}
use Rattle.expression_defs.specs.Layout.{assembled_lines}
use Rattle.object_defs.specs.Modules.{Reference}
use Rattle.asm_defs.specs.Locations.{Line, place}
use Rattle.asm_defs.specs.Memory.{AssembledLine, is_placed, references_of}
use Rattle.asm_defs.specs.Modules.{assembled_line, entry}
use Rattle.asm_defs.specs.Growing.{held_place}
use Rattle.asm_checks.specs.Answers.{Fails}
use Rattle.asm_checks.specs.declared.failure.Failure.{Failure}
use Rattle.module_image.specs.Images.{IsImage}
use Rattle.module_image.specs.ResolvedLines.{AreAllResolved, FillsPlace, SamePlaces}
use Rattle.module_image.proofs.SwapLaws.{places_same, onto_same, resolved_same}
use Rattle.asm_core.specs.declared.second_pass.Output.{Output}
use Rattle.asm_core.specs.declared.pending.Pending.{Pending}
use Rattle.asm_core.specs.Building.{IsOf, AreKnown, refusal_at}
use Rattle.asm_core.specs.Resolving.{IsOutput, IsResolved, pending_outcome}
use Rattle.asm_core.specs.Finishing.{RefusesAt, AreResolved}
use Rattle.asm_core.proofs.KnownLaws.{NextHeld, next_held, none_held}
use Rattle.asm_core.proofs.ResolveLaws.{assembled_more, assembled_stops, assembled_stopped, answer_is, assemble_by, assemble_filled, fills_place, fills_held}
use Rattle.asm_core.proofs.ResolveLaws.{refuses_by}
use Rattle.asm_core.proofs.ResolveLaws.{real}

-- lines are assembled up to some that wait, and what is known of the others comes after them
pub record IsSoFar (unused : List Reference) (names : Names) (order : List Line) (founds : List AssembledLine) (waiting : List Pending)
    (old new : Output) : Type 0 where
  pub before : List Line
  pub rest : List Line
  pub done : List AssembledLine
  pub left : List AssembledLine
  pub all : onto [] order ≡ onto before rest
  pub assembled_lines : assembled_lines (assembled_line names) before ≡ Ok done
  pub known : AreKnown names before rest left waiting
  pub resolved : AreAllResolved done left
  pub places : SamePlaces (onto [] founds) (onto done left)
  pub output : IsOutput unused [] founds old → IsOutput unused done left new

pub first_so_far : (unused : List Reference) (names : Names) (order : List Line) (founds : List AssembledLine) (waiting : List Pending) (output : Output)
    → AreKnown names [] order founds waiting → AreAllResolved [] founds → IsSoFar unused names order founds waiting output output
first_so_far unused names order founds waiting output known resolved = record {
  before = [];
  rest = order;
  done = [];
  left = founds;
  all = refl;
  assembled_lines = refl;
  known = known;
  resolved = resolved;
  places = λ part p. refl;
  output = λ is. is;
}

-- the lines before the next one that waits are done
output_on : (unused : List Reference) (done earlier left later : List AssembledLine) (found : AssembledLine) (output : Output)
    → onto done left ≡ onto earlier (found ∷ later)
    → references_of unused earlier ≡ references_of unused done
    → entry earlier ≡ entry done → IsOutput unused done left output
    → IsOutput unused earlier (found ∷ later) output
output_on unused done earlier left later found output founds references entry is = record {
  bytes = record {
    image = subst (λ lines. IsImage unused lines output.image) founds is.bytes.image;
    references = is.bytes.references ∙ sym references;
  };
  entry = is.entry ∙ sym entry;
}

module _ (unused : List Reference) (names : Names) (order : List Line) (founds : List AssembledLine) (pending : Pending) (others : List Pending)
    (first old new : Output) (so_far : IsSoFar unused names order founds (pending ∷ others) first old) where
  next : NextHeld names unused so_far.before so_far.rest so_far.done so_far.left pending others
  next = next_held names unused so_far.before so_far.rest so_far.done so_far.left pending others so_far.known so_far.resolved so_far.assembled_lines

  abbrev pub are_pending : Pending → Pending → Type 0
  are_pending a b = a ≡ b

  same_pending : are_pending next.is.first pending
  same_pending = let both : pending ∷ others ≡ next.is.first ∷ others = next.is.others in cc both

  waits : IsOf next.lines next.line pending
  waits = subst (IsOf next.lines next.line) same_pending next.is.is

  pub next_so_far : IsResolved unused names pending old new → IsSoFar unused names order founds others first new
  next_so_far by =
      let line = real names unused next.lines next.line pending waits old new by in
      let held = held_place (place next.lines next.line) next.line.statement in
      let fills : FillsPlace held line = fills_place names unused next.lines next.line pending waits old new by in
      let resolved : AreAllResolved next.earlier (held ∷ next.later) =
      subst (λ found. AreAllResolved next.earlier (found ∷ next.later)) next.is.held next.resolved in
      let places : SamePlaces (held ∷ next.earlier) (line ∷ next.earlier) = places_same unused next.earlier held line fills in
      let founds_are : onto so_far.done so_far.left ≡ onto (held ∷ next.earlier) next.later =
      next.founds ∙ ap (λ (found : AssembledLine). onto (found ∷ next.earlier) next.later) next.is.held in
      record {
        before = next.line ∷ next.lines;
        rest = next.left;
        done = line ∷ next.earlier;
        left = next.later;
        all = so_far.all ∙ next.all;
        assembled_lines = assembled_more names next.lines next.line next.earlier line next.assembled_lines
            (assemble_filled names unused next.lines next.line pending waits old new by next.earlier
            ∙ ap (λ answer. answer >>= λ held. Ok line) resolved.0.room);
        known = next.known;
        resolved = resolved_same (held ∷ next.earlier) (line ∷ next.earlier) next.later places resolved.1;
        places = λ part p.
            so_far.places part p
            ∙ (ap (λ lines. is_placed lines part p) founds_are
            ∙ onto_same (held ∷ next.earlier) (line ∷ next.earlier) next.later places part p);
        output = λ is.
            fills_held names unused next.lines next.line pending waits old new by next.earlier next.later next.found next.is.held
            (subst (λ found. AreAllResolved (found ∷ next.earlier) next.later) (sym next.is.held) resolved.1)
            (output_on unused so_far.done next.earlier so_far.left next.later next.found old next.founds next.references next.entry (so_far.output is));
      }

  pub so_far_refused : (failure : Failure) → Fails failure (pending_outcome names pending)
      → RefusesAt (refusal_at pending.number failure) (assembled_lines (assembled_line names) (onto [] order))
  so_far_refused failure fails =
      refuses_by failure pending.number (pending_outcome names pending) (assembled_lines (assembled_line names) (onto [] order)) fails
      (λ cause e.
      ap (assembled_lines (assembled_line names)) (so_far.all ∙ next.all)
      ∙ (assembled_stopped names next.left (next.line ∷ next.lines) _
      (assembled_stops names next.lines next.line next.earlier cause next.assembled_lines
      (assemble_by names next.lines next.line next.earlier (Err cause) (sym (answer_is names next.lines next.line pending waits) ∙ e)))
      ∙ ap (λ number. Err (record { line = number; cause = cause })) (sym waits.number)))

pub all_assembled : (unused : List Reference) (names : Names) (order : List Line) (founds : List AssembledLine) (first output : Output)
    → IsSoFar unused names order founds [] first output → AreResolved unused order founds names first output
all_assembled unused names order founds first output so_far =
    let rest = none_held names unused so_far.before so_far.rest so_far.done so_far.left so_far.known so_far.resolved so_far.assembled_lines in
    record {
      done = onto so_far.done so_far.left;
      assembled_lines = ap (assembled_lines (assembled_line names)) so_far.all ∙ rest.assembled_lines;
      places = so_far.places;
      output = λ is.
          let there = so_far.output is in
          record {
            bytes = record { image = there.bytes.image; references = there.bytes.references ∙ sym rest.references };
            entry = there.entry ∙ sym rest.entry;
          };
    }

pub first_waits : (slice items : List Pending) (index : ℕ) (pending : Pending) → slice ≡ items → index < length slice → pending ≡ get_or slice index pending
    → drop index items ≡ pending ∷ drop (index + 1) items
first_waits slice items index pending same lt is =
    let next : suc index ≡ index + 1 = omega arith in
    ap (drop index) (sym same)
    ∙ (drop-cons slice index pending lt
    ∙ (ap (λ (first : Pending). first ∷ drop (suc index) slice) (sym is)
    ∙ (ap (λ n. pending ∷ drop n slice) next ∙ ap (λ (rest : List Pending). pending ∷ drop (index + 1) rest) same)))
