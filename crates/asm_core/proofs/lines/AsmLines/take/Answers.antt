use Rattle.std.proofs.Common.{◌≡◌, ◌≤◌, ◌+◌, ◌||◌, ◌∷◌, ◌++◌, Ok, Err, ℕ, true, List, length, refl, sym, ap, subst, ◌∙◌, arith}
use Rattle.std.specs.Prelude.{max, Bool}
use Rattle.source_defs.specs.Refusals.{◌>>=◌}
use Rattle.expression_defs.specs.Symbols.{Names}
use Rattle.asm_defs.specs.declared.location.Location.{Location}
use Rattle.asm_defs.specs.Locations.{Line, location, reached, relocatable, after, is_in_part}
use Rattle.asm_defs.specs.FirstChecks as spec
use Rattle.asm_defs.specs.FirstChecks.{EarlierLines, known_of, line_of, location_after, defs_in, refs_in, is_end}
use Rattle.asm_defs.specs.Modules.{title_by}
use Rattle.asm_defs.proofs.CheckLaws.{checked_within, checked_titled, checked_parses}
use Rattle.asm_checks.specs.Checks.{model_of_checked}
use Rattle.asm_checks.proofs.Labels.{checked_new, checked_known, has_room}
use Rattle.asm_core.specs.Building.{Takes}
use Rattle.asm_core.specs.declared.error.AsmError.{AsmError}
use Rattle.asm_core.specs.Keeping.{known_in, names_with}
use Rattle.asm_core.specs.Adding.{IsNext}
use Rattle.asm_core.proofs.CountLaws.{counted}
use Rattle.asm_core.proofs.HeldLaws as held
use Rattle.asm_core.proofs.LineLaws.{location_more, names_more, line_names, known_same}
use Rattle.asm_core.proofs.WorkLaws.{works_same, still_after, takes_none, takes_failed}
use Rattle.asm_core.proofs.lines.AsmLines.take.Goals as goal

pub returns-in_err-count : goal.returns-in_err-count
returns-in_err-count c = λ lines is.
    takes_none lines c.args.line.now.text.now c.from_residual.result c.count.new.self c.from_residual.ensures.1
    (still_after lines c.args.self.now c.count.new.self c.in_err-count.ensures.unchanged c.in_err-count.ensures.still is)

pub returns-then-is_comment : goal.returns-then-is_comment
returns-then-is_comment c = λ lines is.
    counted lines c.args.line.now.text.now c.args.self.now c.count.new.self (c.is_comment.ensures.0 c.if-is_comment.true)
    c.in_ok-count.ensures.counted is c.nothing_taken.result c.nothing_taken.ensures.at c.nothing_taken.ensures.origin c.nothing_taken.ensures.names

pub work-requires-clause-room : goal.work-requires-clause-room
work-requires-clause-room c =
    let found = model_of_checked c.in-Ok.checked in
    let is = rw c.known.ensures.known at c.in-Ok.ensures.checked in
    record {
      room = held.has_room (known_in c.args.self.now) c.args.line.now.text.now found c.args.self.now.placed is;
      fits = omega (arith, has_room (known_in c.args.self.now) c.args.line.now.text.now found is c.args.self.now.placed);
    }

pub returns-in-Err-work : goal.returns-in-Err-work
returns-in-Err-work c = λ lines is.
    let is_new = rw c.known.ensures.known at c.in-Ok.ensures.checked in
    let after = still_after lines c.args.self.now c.work.new.self c.in-Err-work.ensures.unchanged c.work.ensures.still is in
    let failed = takes_failed lines c.args.line.now.text.now c.args.self.now.symbols c.in-Ok.checked.parsed.label c.in-Err-work.failure c.work.new.self
    c.in-Err-work.ensures.known
    (λ known.
    ap (λ answer. answer >>= λ found. Ok (line_of (length lines + 1) found))
    (ap (λ (before : EarlierLines). spec.checked before c.args.line.now.text.now) (sym (known_same lines c.args.self.now is))
    ∙ checked_known (known_in c.args.self.now) c.args.line.now.text.now (model_of_checked c.in-Ok.checked) is_new known))
    after.taken after in
    subst (λ (error : AsmError). Takes lines c.args.line.now.text.now (Err error) c.work.new.self) (sym c.refusal-in-Err-work.ensures) failed

pub advance-requires-clause-place : goal.advance-requires-clause-place
advance-requires-clause-place c =
    let found = model_of_checked c.in-Ok.checked in
    let is_new = rw c.known.ensures.known at c.in-Ok.ensures.checked in
    let known : spec.checked (known_in c.args.self.now) c.args.line.now.text.now ≡ Ok found =
    checked_new (known_in c.args.self.now) c.args.line.now.text.now (model_of_checked c.in-Ok.checked) is_new c.in-Ok-work.ensures.fresh in
    subst (λ (from : Location). is_in_part (location_after from found.move) ≡ true) (sym c.work.ensures.still.location)
    (checked_within (known_in c.args.self.now) c.args.line.now.text.now found known)

pub advance-requires-clause-titled : goal.advance-requires-clause-titled
advance-requires-clause-titled c =
    let found = model_of_checked c.in-Ok.checked in
    let is_new = rw c.known.ensures.known at c.in-Ok.ensures.checked in
    let known : spec.checked (known_in c.args.self.now) c.args.line.now.text.now ≡ Ok found =
    checked_new (known_in c.args.self.now) c.args.line.now.text.now (model_of_checked c.in-Ok.checked) is_new c.in-Ok-work.ensures.fresh in
    checked_titled (known_in c.args.self.now) c.args.line.now.text.now found known

pub returns-in-Ok-work : goal.returns-in-Ok-work
returns-in-Ok-work c = λ lines is.
    let found = model_of_checked c.in-Ok.checked in
    let number = length lines + 1 in
    let next_line : Line = line_of number found in
    let is_new = rw c.known.ensures.known at c.in-Ok.ensures.checked in
    let known : spec.checked (known_in c.args.self.now) c.args.line.now.text.now ≡ Ok found =
    checked_new (known_in c.args.self.now) c.args.line.now.text.now (model_of_checked c.in-Ok.checked) is_new c.in-Ok-work.ensures.fresh in
    let checked : spec.checked (known_of lines) c.args.line.now.text.now ≡ Ok found =
    ap (λ (before : EarlierLines). spec.checked before c.args.line.now.text.now) (sym (known_same lines c.args.self.now is)) ∙ known in
    let added = c.in-Ok-work.ensures.added in
    let still = c.work.ensures.still in
    let went = c.advance.ensures in
    let next : IsNext c.args.self.now c.args.line.now.text.now c.in-Ok.checked lines next_line = record {
      at = ap (λ (from : Location). after from found.move.gap) is.location;
      number = ap (λ taken. taken + 1) is.taken;
      parsed = checked_parses (known_of lines) c.args.line.now.text.now found checked;
      statement = refl;
    } in
    let place : c.advance.new.self.location ≡ location (next_line ∷ lines) =
    went.location ∙ (ap (λ (from : Location). location_after from found.move) (still.location ∙ is.location) ∙ sym (location_more number found lines)) in (
      next_line,
      ap (λ answer. answer >>= λ found. Ok (line_of number found)) checked,
      record {
        names = went.kept.names ∙ (added.names ∙ (ap (λ (names : Names). names_with names c.in-Ok.checked) is.names ∙ sym (names_more number found lines)));
        location = place;
        reached = went.reached
            ∙ (ap (λ before. max before (relocatable c.advance.new.self.location)) (still.reached ∙ is.reached)
            ∙ ap (λ (at : Location). max (reached lines) (relocatable at)) place);
        title = went.title ∙ ap (λ (title : List ℕ). title_by title found.statement) (still.title ∙ is.title);
        defs = went.kept.lists.defs ∙ (added.defs ∙ ap (λ (names : List (List ℕ)). names ++ defs_in found.statement) is.defs);
        refs = went.kept.lists.refs ∙ (added.refs ∙ ap (λ (names : List (List ℕ)). names ++ refs_in found.statement) is.refs);
        taken = omega (arith, went.taken, still.taken, is.taken);
        ended = went.ended ∙ ap (λ (ended : Bool). is_end found.statement || ended) (still.ended ∙ is.ended);
        worked = works_same (next_line ∷ lines) c.work.new.self c.advance.new.self went.kept.names went.worked.image went.kept.lists.waits went.worked.refused
            (added.worked lines next_line next is.worked);
      },
      record {
        at = c.taken_line.ensures.at ∙ (c.after-at.ensures ∙ next.at);
        origin = c.taken_line.ensures.origin;
        names = line_names found.label found.move.label (refs_in found.statement) ∙ sym c.taken_line.ensures.names;
        parsed = next.parsed;
      },
    )

pub taken_line-requires-clause-within : goal.taken_line-requires-clause-within
taken_line-requires-clause-within c =
    let is = rw c.known.ensures.known at c.in-Ok.ensures.checked in
    subst (λ (at : Location). at.number ≤ 65536) (sym c.after-at.ensures)
    (omega (arith, has_room (known_in c.args.self.now) c.args.line.now.text.now (model_of_checked c.in-Ok.checked) is c.args.self.now.placed))
