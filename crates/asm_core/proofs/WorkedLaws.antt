-- A builder that has worked one line more.
use Rattle.std.proofs.Common.{◌≡◌, ℕ, ◌+◌, true, false, not, List, [], ◌∷◌, ◌++◌, Some, None, Ok, Err, refl, sym, ap, subst, ◌∙◌, inl, inr, append-nil}
use Rattle.std.specs.Prelude.{Option, Result, is_some, option_to_list, ◌⊎◌}
use Rattle.source_defs.specs.Refusals.{◌>>=◌}
use Rattle.source_defs.specs.Orders.{onto}
use Rattle.expression_defs.specs.Symbols.{Names, look_up}
use Rattle.expression_defs.specs.Growing.{Grows, is_closed}
use Rattle.object_defs.specs.Modules.{Reference}
use Rattle.asm_defs.specs.declared.causes.AsmCause.{AsmCause}
use Rattle.asm_defs.specs.declared.causes.AsmCause.TheVariants.{Overflow, Overlap}
use Rattle.asm_defs.specs.declared.content.Content.{Content}
use Rattle.asm_defs.specs.declared.location.Location.{Location}
use Rattle.asm_defs.specs.Locations.{Line, place}
use Rattle.asm_defs.specs.Statements as parsed
use Rattle.asm_defs.specs.Statements.{Statement, parse_line}
use Rattle.asm_defs.specs.SecondChecks.{outcome}
use Rattle.asm_defs.specs.Memory.{AssembledLine, contents_by, references_of}
use Rattle.asm_defs.specs.Modules.{assembled_line, with_room}
use Rattle.asm_defs.specs.Growing.{is_unresolved, held_place}
use Rattle.asm_checks.specs.Answers.{Causes}
use Rattle.asm_checks.proofs.Failures.{caused, causes_on}
use Rattle.module_image.specs.ResolvedLines.{IsResolvedAfter}
use Rattle.module_image.specs.declared.image.Image.{Image}
use Rattle.module_image.proofs.SwapLaws.{resolved_alone, no_room, has_own_room, are_causes}
use Rattle.asm_core.specs.declared.pending.Pending.{Pending}
use Rattle.asm_core.specs.declared.pending.Refused.{Refused}
use Rattle.asm_core.specs.declared.lines.AsmLines.{AsmLines}
use Rattle.asm_core.specs.declared.first_pass.Emitted.{Emitted}
use Rattle.asm_core.specs.declared.first_pass.Emitted.TheVariants as emitted
use Rattle.asm_core.specs.Building.{IsOf, IsKnown, IsWaiting, AreKnown, ImageOf, IsGoing, Refuses, IsStopped, IsWorked}
use Rattle.asm_core.specs.Assembling.{ComesTo, IsHeld, IsRefused, AssemblesBy}
use Rattle.asm_core.specs.Emitting.{AreContents, Stops, ByRoom, Emits}
use Rattle.asm_core.proofs.BlankLaws.{nothing_placed, nothing_comes, still_room}
use Rattle.asm_core.proofs.KnownLaws.{onto_more, resolved_more, known_more, held_more, known_still, refuses_still, comes_still}

-- a line without room is refused for a cause other than lack of memory
room_causes : (earlier : List AssembledLine) (line : AssembledLine) (cause : AsmCause) → with_room earlier line ≡ Err cause → Causes cause (with_room earlier line)
room_causes earlier line cause e = by (no_room earlier line cause e)
  where
    by : are_causes Overflow cause ⊎ are_causes Overlap cause → Causes cause (with_room earlier line)
    by (inl same) = subst (λ (cause : AsmCause). with_room earlier line ≡ Err cause → Causes cause (with_room earlier line)) same (λ e. e) e
    by (inr same) = subst (λ (cause : AsmCause). with_room earlier line ≡ Err cause → Causes cause (with_room earlier line)) same (λ e. e) e

module _ (known more : Names) (grows : Grows known more) (lines : List Line) (line : Line) where
  stopped_more : (refused : Refused) (waiting : List Pending) → IsStopped refused lines known waiting → IsStopped refused (line ∷ lines) more waiting
  stopped_more refused waiting is = record {
    order = is.order;
    founds = is.founds;
    line = is.line;
    later = is.later ++ line ∷ [];
    all = ap (λ lines. line ∷ lines) is.all ∙ sym (onto_more (is.line ∷ onto [] is.order) is.later line);
    number = is.number;
    known = known_still known more grows [] is.order is.founds waiting is.known;
    resolved = is.resolved;
    refuses = refuses_still known more grows (onto [] is.order) (onto [] is.founds) is.line refused.cause refused.waiting is.refuses;
  }

  -- after a line that is refused, none counts
  pub worked_stopped : (refused new : Option Refused) (image image' : Option Image) (waiting waiting' : List Pending) → is_some refused ≡ true → new ≡ refused
      → waiting' ≡ waiting → IsWorked lines known image waiting refused → IsWorked (line ∷ lines) more image' waiting' new
  worked_stopped None new image image' waiting waiting' some same rest is = cc some
  worked_stopped (Some refused) new image image' waiting waiting' some same rest is =
      subst (λ (new : Option Refused). IsWorked (line ∷ lines) more image' waiting' new) (sym same)
      (subst (IsStopped refused (line ∷ lines) more) (sym rest) (stopped_more refused waiting is))

  module _ (image : Option Image) (waiting : List Pending) (going : IsGoing lines known image waiting) where
    abbrev earlier : List AssembledLine
    earlier = onto [] going.founds

    still : AreKnown more [] going.order going.founds waiting
    still = known_still known more grows [] going.order going.founds waiting going.known

    goes_on : (image' : Option Image) (waiting' : List Pending) (found : AssembledLine)
        → AreKnown more [] (going.order ++ line ∷ []) (going.founds ++ found ∷ []) waiting'
        → IsResolvedAfter earlier found → ImageOf (found ∷ earlier) image' → IsGoing (line ∷ lines) more image' waiting'
    goes_on image' waiting' found known resolved placed = record {
      order = going.order ++ line ∷ [];
      founds = going.founds ++ found ∷ [];
      all = ap (λ lines. line ∷ lines) going.all ∙ sym (onto_more [] going.order line);
      known = known;
      resolved = resolved_more [] going.founds found going.resolved resolved;
      image = subst (λ lines. ImageOf lines image') (sym (onto_more [] going.founds found)) placed;
    }

    -- a line that says nothing
    pub nothing_more : (image' : Option Image) → line.statement ≡ parsed.Nothing
        → (ImageOf earlier image → ImageOf (nothing_placed (place lines line) ∷ earlier) image')
        → IsGoing (line ∷ lines) more image' waiting
    nothing_more image' parses made =
        let found = nothing_placed (place lines line) in
        let comes : outcome (look_up more) (place lines line) line.statement ≡ Ok found.outcome =
        ap (outcome (look_up more) (place lines line)) parses ∙ nothing_comes (look_up more) (place lines line) in
        goes_on image' waiting found
        (known_more more [] going.order going.founds waiting line found still
        (subst (λ before. IsKnown more before line found) going.all (record { at = refl; comes = comes })))
        (record { room = still_room (place lines line) going.founds going.resolved; is_resolved = refl })
        (made going.image)

    stops : (cause : AsmCause) (held : Option Pending) (number : ℕ) → number ≡ line.number → Refuses known lines earlier line cause held
        → IsStopped (record { line = number; cause = cause; waiting = held }) (line ∷ lines) more waiting
    stops cause held number same refuses = record {
      order = going.order;
      founds = going.founds;
      line = line;
      later = [];
      all = ap (λ lines. line ∷ lines) going.all;
      number = same;
      known = still;
      resolved = going.resolved;
      refuses = refuses_still known more grows (onto [] going.order) earlier line cause held
          (subst (λ before. Refuses known before earlier line cause held) going.all refuses);
    }

    module _ (old new : AsmLines) (at : Location) (text : List ℕ) (is_at : at ≡ place lines line) (is_parsed : parse_line text ≡ Ok line.statement)
        (is_number : old.taken + 1 ≡ line.number) (is_image : old.image ≡ image) (none : old.refused ≡ None) where
      abbrev Worked : Type 0
      Worked = IsWorked (line ∷ lines) more new.image new.waiting.items new.refused

      by_refusal : (cause : AsmCause) (held : Option Pending) → Refuses known lines earlier line cause held
          → (new.refused ≡ Some (record { line = old.taken + 1; cause = cause; waiting = held })) × (new.waiting.items ≡ waiting) → Worked
      by_refusal cause held refuses stop =
          subst (λ (refused : Option Refused). IsWorked (line ∷ lines) more new.image new.waiting.items refused) (sym stop.0)
          (subst (IsStopped (record { line = old.taken + 1; cause = cause; waiting = held }) (line ∷ lines) more) (sym stop.1)
          (stops cause held (old.taken + 1) is_number refuses))

      by_going : IsGoing (line ∷ lines) more new.image new.waiting.items → new.refused ≡ old.refused → Worked
      by_going is same = subst (λ (refused : Option Refused). IsWorked (line ∷ lines) more new.image new.waiting.items refused) (sym (same ∙ none)) is

      -- a line that has an outcome
      module _ (statement : Statement) (is_statement : statement ≡ line.statement) (given : List Content) (comes : ComesTo known at statement given)
          (is_waiting : old.waiting.items ≡ waiting) where
        abbrev found : AssembledLine
        found = record { at = place lines line; outcome = comes.found }

        outcome_is : outcome (look_up known) (place lines line) line.statement ≡ Ok comes.found
        outcome_is = rw (← is_at, ← is_statement) comes.comes

        is_known : IsKnown more (onto [] going.order) line found
        is_known =
            subst (λ before. IsKnown more before line found) going.all
            (record { at = refl; comes = comes_still known more grows lines line (ap (is_closed is_unresolved) outcome_is) ∙ outcome_is })

        comes_by : (answer : Result AssembledLine AsmCause) → with_room earlier found ≡ answer → ByRoom old earlier found false new answer → Worked
        comes_by (Ok other) room by =
            by_going
            (goes_on new.image new.waiting.items found
            (subst (AreKnown more [] (going.order ++ line ∷ []) (going.founds ++ found ∷ [])) (sym (by.1 ∙ is_waiting))
            (known_more more [] going.order going.founds waiting line found still is_known))
            (record { room = has_own_room earlier found other room; is_resolved = comes.is_resolved }) by.2)
            by.0
        comes_by (Err cause) room by =
            by_refusal cause None (
              ap (is_closed is_unresolved) outcome_is,
              subst (Causes cause)
                  (sym (ap (λ answer. answer >>= λ outcome. with_room earlier (record { at = place lines line; outcome = outcome })) outcome_is))
                  (room_causes earlier found cause room),
            )
            (by.0, by.1 ∙ is_waiting)

        contents_are : AreContents at given earlier found
        contents_are = (
          sym is_at,
          λ references placed.
              comes.gives.bytes placed
              ∙ (resolved_alone at [] (references_of references earlier) comes.found comes.is_resolved
              ∙ ap (λ (at : Location). contents_by at (references_of references earlier) comes.found) is_at),
        )

        pub comes_worked : ((earlier : List AssembledLine) (line : AssembledLine) → ImageOf earlier old.image → AreContents at given earlier line
            → ByRoom old earlier line false new (with_room earlier line))
            → Worked
        comes_worked emits =
            comes_by (with_room earlier found) refl
            (emits earlier found (subst (ImageOf earlier) (sym is_image) going.image) contents_are)

      -- a line that waits
      module _ (number : ℕ) (is_taken : number ≡ line.number) (statement : Statement) (is_statement : statement ≡ line.statement) (pending : Pending)
          (given : List Content) (held : IsHeld number at text statement pending given) (is_waiting : old.waiting.items ≡ waiting ++ pending ∷ []) where
        abbrev place_held : AssembledLine
        place_held = held_place (place lines line) line.statement

        is_of : IsOf lines line pending
        is_of = record {
          number = held.is.number ∙ is_taken;
          at = held.is.at ∙ is_at;
          parsed = ap parse_line held.is.text ∙ is_parsed;
        }

        waits_by : (answer : Result AssembledLine AsmCause) → with_room earlier place_held ≡ answer → ByRoom old earlier place_held true new answer → Worked
        waits_by (Ok other) room by =
            by_going
            (goes_on new.image new.waiting.items place_held
            (subst (AreKnown more [] (going.order ++ line ∷ []) (going.founds ++ place_held ∷ [])) (sym (by.1 ∙ is_waiting))
            (held_more more [] going.order going.founds waiting line place_held pending still
            (subst (λ before. IsWaiting before line place_held (pending ∷ []) []) going.all
            (record { first = pending; is = is_of; held = refl; others = refl }))))
            (record { room = has_own_room earlier place_held other room; is_resolved = refl }) by.2)
            by.0
        waits_by (Err cause) room by = by_refusal cause (Some pending) (is_of, room_causes earlier place_held cause room) (by waiting pending is_waiting)

        same_contents : (references : List Reference) → contents_by at [] (held_place at statement).outcome
            ≡ contents_by (place lines line) (references_of references earlier) place_held.outcome
        same_contents references =
            ap (λ (at : Location). contents_by at [] (held_place at statement).outcome) is_at
            ∙ ap (λ (statement : Statement). contents_by (place lines line) [] (held_place (place lines line) statement).outcome) is_statement

        pub waits_worked : ((earlier : List AssembledLine) (line : AssembledLine) → ImageOf earlier old.image → AreContents at given earlier line
            → ByRoom old earlier line true new (with_room earlier line))
            → Worked
        waits_worked emits =
            waits_by (with_room earlier place_held) refl
            (emits earlier place_held (subst (ImageOf earlier) (sym is_image) going.image)
            (sym is_at, λ references placed. held.gives.bytes placed ∙ same_contents references))

      -- a line that is refused
      module _ (statement : Statement) (is_statement : statement ≡ line.statement) (cause : AsmCause) (refused : IsRefused known at statement cause)
          (is_waiting : old.waiting.items ≡ waiting) where
        answer_is : outcome (look_up known) at statement ≡ outcome (look_up known) (place lines line) line.statement
        answer_is = rw (is_at, is_statement) refl

        refused_is : outcome (look_up known) (place lines line) line.statement ≡ Err cause
        refused_is = sym answer_is ∙ caused cause (outcome (look_up known) at statement) refused.causes

        pub refused_worked : Stops old cause false new → Worked
        refused_worked stop =
            by_refusal cause None (
              ap (is_closed is_unresolved) refused_is ∙ ap not refused.closed,
              causes_on cause (outcome (look_up known) at statement) (assembled_line known lines earlier line) refused.causes
                  (λ e. ap (λ answer. answer >>= λ outcome. with_room earlier (record { at = place lines line; outcome = outcome })) refused_is),
            )
            (stop.0, stop.1 ∙ is_waiting)

      pub emits_worked : (statement : Statement) → statement ≡ line.statement → (number : ℕ) → number ≡ line.number → (held : Option Pending) (what : Emitted)
          → AssemblesBy known number at text statement held what → old.waiting.items ≡ waiting ++ option_to_list held → Emits old at what (is_some held) new
          → Worked
      emits_worked statement same number taken None (emitted.Bytes given) assembles is_waiting emits =
          comes_worked statement same given.items assembles (is_waiting ∙ append-nil waiting) emits
      emits_worked statement same number taken None (emitted.Refused cause) assembles is_waiting emits =
          refused_worked statement same cause assembles (is_waiting ∙ append-nil waiting) emits
      emits_worked statement same number taken (Some pending) (emitted.Bytes given) assembles is_waiting emits =
          waits_worked number taken statement same pending given.items assembles is_waiting emits
      emits_worked statement same number taken (Some pending) (emitted.Refused cause) assembles is_waiting emits = absurd assembles
