-- What is known of lines, with more names and with more lines.
use Rattle.std.proofs.Common.{◌≡◌, true, List, [], ◌∷◌, ◌++◌, Some, None, Ok, refl, sym, ap, subst, ◌∙◌, inl, inr}
use Rattle.std.specs.Prelude.{Option}
use Rattle.source_defs.specs.Refusals.{◌>>=◌}
use Rattle.source_defs.specs.Orders.{onto}
use Rattle.expression_defs.specs.Symbols.{Names, look_up}
use Rattle.expression_defs.specs.Growing.{Grows, is_closed}
use Rattle.expression_defs.specs.Layout.{assembled_lines}
use Rattle.object_defs.specs.Modules.{Reference}
use Rattle.asm_defs.specs.declared.causes.AsmCause.{AsmCause}
use Rattle.asm_defs.specs.declared.location.Location.{Location}
use Rattle.asm_defs.specs.Locations.{Line, place}
use Rattle.asm_defs.specs.SecondChecks.{outcome}
use Rattle.asm_defs.specs.Memory.{AssembledLine, references_of}
use Rattle.asm_defs.specs.Modules.{assembled_line, with_room, entry}
use Rattle.asm_defs.specs.Growing.{is_unresolved}
use Rattle.asm_defs.proofs.GrowingLaws.{outcome_stays}
use Rattle.asm_checks.specs.Answers.{Causes}
use Rattle.module_image.specs.ResolvedLines.{IsResolvedAfter, AreAllResolved}
use Rattle.module_image.proofs.SwapLaws.{uses_none, enters_none}
use Rattle.asm_core.specs.declared.pending.Pending.{Pending}
use Rattle.asm_core.specs.Building.{IsKnown, IsWaiting, AreKnown, Refuses}

pub onto_more : {A : Type 0} (before items : List A) (item : A) → onto before (items ++ item ∷ []) ≡ item ∷ onto before items
onto_more before [] item = refl
onto_more before (first ∷ items) item = onto_more (first ∷ before) items item

pub resolved_more : (earlier founds : List AssembledLine) (found : AssembledLine) → AreAllResolved earlier founds → IsResolvedAfter (onto earlier founds) found
    → AreAllResolved earlier (founds ++ found ∷ [])
resolved_more earlier [] found all more = (more, tt)
resolved_more earlier (first ∷ founds) found all more = (all.0, resolved_more (first ∷ earlier) founds found all.1 more)

-- one line more, which has an outcome, or waits
pub known_more : (known : Names) (before order : List Line) (founds : List AssembledLine) (waiting : List Pending) (line : Line) (found : AssembledLine)
    → AreKnown known before order founds waiting → IsKnown known (onto before order) line found
    → AreKnown known before (order ++ line ∷ []) (founds ++ found ∷ []) waiting
known_more known before [] [] waiting line found are is = inl (is, are)
known_more known before [] (first ∷ founds) waiting line found are is = absurd are
known_more known before (first ∷ order) [] waiting line found are is = absurd are
known_more known before (first ∷ order) (other ∷ founds) waiting line found (inl (one, others)) is =
    inl (one, known_more known (first ∷ before) order founds waiting line found others is)
known_more known before (first ∷ order) (other ∷ founds) waiting line found (inr (rest, one, others)) is =
    inr (rest, one, known_more known (first ∷ before) order founds rest line found others is)

waiting_more : (before : List Line) (line : Line) (found : AssembledLine) (waiting others more : List Pending) → IsWaiting before line found waiting others
    → IsWaiting before line found (waiting ++ more) (others ++ more)
waiting_more before line found waiting others more is =
    record { first = is.first; is = is.is; held = is.held; others = ap (λ waiting. waiting ++ more) is.others }

pub held_more : (known : Names) (before order : List Line) (founds : List AssembledLine) (waiting : List Pending) (line : Line) (found : AssembledLine) (pending : Pending)
    → AreKnown known before order founds waiting → IsWaiting (onto before order) line found (pending ∷ []) []
    → AreKnown known before (order ++ line ∷ []) (founds ++ found ∷ []) (waiting ++ pending ∷ [])
held_more known before [] [] waiting line found pending are is =
    inr ([], subst (λ waiting. IsWaiting before line found (waiting ++ pending ∷ []) []) (sym are) is, refl)
held_more known before [] (first ∷ founds) waiting line found pending are is = absurd are
held_more known before (first ∷ order) [] waiting line found pending are is = absurd are
held_more known before (first ∷ order) (other ∷ founds) waiting line found pending (inl (one, others)) is =
    inl (one, held_more known (first ∷ before) order founds waiting line found pending others is)
held_more known before (first ∷ order) (other ∷ founds) waiting line found pending (inr (rest, one, others)) is =
    inr (
      rest ++ pending ∷ [],
      waiting_more before first other waiting rest (pending ∷ []) one,
      held_more known (first ∷ before) order founds rest line found pending others is,
    )

module _ (known more : Names) (grows : Grows known more) where
  pub comes_still : (before : List Line) (line : Line) → is_closed is_unresolved (outcome (look_up known) (place before line) line.statement) ≡ true
      → outcome (look_up more) (place before line) line.statement ≡ outcome (look_up known) (place before line) line.statement
  comes_still before line closed = outcome_stays (look_up known) (look_up more) grows (place before line) line.statement closed

  is_still : (before : List Line) (line : Line) (found : AssembledLine) → IsKnown known before line found → IsKnown more before line found
  is_still before line found is = record {
    at = is.at;
    comes = comes_still before line (ap (is_closed is_unresolved) is.comes) ∙ is.comes;
  }

  -- more names leave what is known as it is
  pub known_still : (before order : List Line) (founds : List AssembledLine) (waiting : List Pending) → AreKnown known before order founds waiting
      → AreKnown more before order founds waiting
  known_still before [] [] waiting are = are
  known_still before [] (found ∷ founds) waiting are = absurd are
  known_still before (line ∷ order) [] waiting are = absurd are
  known_still before (line ∷ order) (found ∷ founds) waiting (inl (is, others)) =
      inl (is_still before line found is, known_still (line ∷ before) order founds waiting others)
  known_still before (line ∷ order) (found ∷ founds) waiting (inr (rest, is, others)) =
      inr (rest, is, known_still (line ∷ before) order founds rest others)

  pub refuses_still : (before : List Line) (earlier : List AssembledLine) (line : Line) (cause : AsmCause) (waiting : Option Pending)
      → Refuses known before earlier line cause waiting → Refuses more before earlier line cause waiting
  refuses_still before earlier line cause (Some pending) refuses = refuses
  refuses_still before earlier line cause None refuses =
      let same = comes_still before line refuses.0 in (
        ap (is_closed is_unresolved) same ∙ refuses.0,
        subst (Causes cause) (ap (λ answer. answer >>= λ found. with_room earlier (record { at = place before line; outcome = found })) (sym same)) refuses.1,
      )

-- the next line that waits, with the lines before it, which are assembled
pub record NextHeld (names : Names) (unused : List Reference) (before rest : List Line) (done all_founds : List AssembledLine) (pending : Pending)
    (others : List Pending) : Type 0 where
  pub lines : List Line
  pub line : Line
  pub left : List Line
  pub earlier : List AssembledLine
  pub found : AssembledLine
  pub later : List AssembledLine
  pub all : onto before rest ≡ onto (line ∷ lines) left
  pub assembled_lines : assembled_lines (assembled_line names) lines ≡ Ok earlier
  pub is : IsWaiting lines line found (pending ∷ others) others
  pub resolved : AreAllResolved earlier (found ∷ later)
  pub known : AreKnown names (line ∷ lines) left later others
  pub founds : onto done all_founds ≡ onto earlier (found ∷ later)
  pub references : references_of unused earlier ≡ references_of unused done
  pub entry : entry earlier ≡ entry done

same_tail : (pending first : Pending) (others rest : List Pending) → pending ∷ others ≡ first ∷ rest → rest ≡ others
same_tail pending first others rest e = cc e

module _ (known : Names) (unused : List Reference) where
  assembles : (before : List Line) (line : Line) (done : List AssembledLine) (found : AssembledLine) → IsKnown known before line found → with_room done found ≡ Ok found
      → assembled_line known before done line ≡ Ok found
  assembles before line done found is room =
      ap (λ answer. answer >>= λ outcome. with_room done (record { at = place before line; outcome = outcome })) is.comes
      ∙ (ap (λ (at : Location). with_room done (record { at = at; outcome = found.outcome })) (sym is.at) ∙ room)

  assembled_more : (before : List Line) (line : Line) (done : List AssembledLine) (found : AssembledLine) → assembled_lines (assembled_line known) before ≡ Ok done
      → assembled_line known before done line ≡ Ok found → assembled_lines (assembled_line known) (line ∷ before) ≡ Ok (found ∷ done)
  assembled_more before line done found e f = rw e (rw f refl)

  pub next_held : (before rest : List Line) (done founds : List AssembledLine) (pending : Pending) (others : List Pending)
      → AreKnown known before rest founds (pending ∷ others)
      → AreAllResolved done founds → assembled_lines (assembled_line known) before ≡ Ok done → NextHeld known unused before rest done founds pending others
  next_held before [] done [] pending others are resolved is = cc are
  next_held before [] done (found ∷ founds) pending others are resolved is = absurd are
  next_held before (line ∷ rest) done [] pending others are resolved is = absurd are
  next_held before (line ∷ rest) done (found ∷ founds) pending others (inl (one, more)) resolved is =
      let assembled_here = assembled_more before line done found is (assembles before line done found one resolved.0.room) in
      let next = next_held (line ∷ before) rest (found ∷ done) founds pending others more resolved.1 assembled_here in
      record {
        lines = next.lines;
        line = next.line;
        left = next.left;
        earlier = next.earlier;
        found = next.found;
        later = next.later;
        all = next.all;
        assembled_lines = next.assembled_lines;
        is = next.is;
        resolved = next.resolved;
        known = next.known;
        founds = next.founds;
        references = next.references ∙ uses_none found.at (references_of unused done) found.outcome resolved.0.is_resolved;
        entry = next.entry ∙ enters_none (entry done) found.outcome resolved.0.is_resolved;
      }
  next_held before (line ∷ rest) done (found ∷ founds) pending others (inr (left, one, more)) resolved is =
      let same = same_tail pending one.first others left one.others in
      record {
        lines = before;
        line = line;
        left = rest;
        earlier = done;
        found = found;
        later = founds;
        all = refl;
        assembled_lines = is;
        is = subst (IsWaiting before line found (pending ∷ others)) same one;
        resolved = resolved;
        known = subst (AreKnown known (line ∷ before) rest founds) same more;
        founds = refl;
        references = refl;
        entry = refl;
      }

  -- no line waits, so all are assembled
  pub record AllAssembled (before rest : List Line) (done founds : List AssembledLine) : Type 0 where
    pub assembled_lines : assembled_lines (assembled_line known) (onto before rest) ≡ Ok (onto done founds)
    pub references : references_of unused (onto done founds) ≡ references_of unused done
    pub entry : entry (onto done founds) ≡ entry done

  pub none_held : (before rest : List Line) (done founds : List AssembledLine) → AreKnown known before rest founds [] → AreAllResolved done founds
      → assembled_lines (assembled_line known) before ≡ Ok done → AllAssembled before rest done founds
  none_held before [] done [] are resolved is = record { assembled_lines = is; references = refl; entry = refl }
  none_held before [] done (found ∷ founds) are resolved is = absurd are
  none_held before (line ∷ rest) done [] are resolved is = absurd are
  none_held before (line ∷ rest) done (found ∷ founds) (inl (one, more)) resolved is =
      let assembled_here = assembled_more before line done found is (assembles before line done found one resolved.0.room) in
      let all = none_held (line ∷ before) rest (found ∷ done) founds more resolved.1 assembled_here in
      record {
        assembled_lines = all.assembled_lines;
        references = all.references ∙ uses_none found.at (references_of unused done) found.outcome resolved.0.is_resolved;
        entry = all.entry ∙ enters_none (entry done) found.outcome resolved.0.is_resolved;
      }
  none_held before (line ∷ rest) done (found ∷ founds) (inr (left, one, more)) resolved is = cc one.others
