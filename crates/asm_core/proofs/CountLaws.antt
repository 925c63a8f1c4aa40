-- A builder that has counted a line that says nothing.
use Rattle.std.proofs.Common.{◌≡◌, ℕ, ◌+◌, true, List, [], ◌∷◌, Some, None, Ok, length, refl, sym, ap, ◌∙◌, arith, append-nil}
use Rattle.std.specs.Prelude.{Option, IsSome}
use Rattle.source_defs.specs.Refusals.{◌>>=◌}
use Rattle.source_defs.specs.Orders.{onto}
use Rattle.source_defs.specs.Fields.{fields, no_fields}
use Rattle.expression_defs.specs.Symbols.{Names}
use Rattle.expression_defs.specs.Growing.{Grows}
use Rattle.asm_defs.specs.Locations.{Line, location, place, is_in_part}
use Rattle.asm_defs.specs.Statements.{Nothing}
use Rattle.asm_defs.specs.Memory.{AssembledLine}
use Rattle.asm_defs.specs.FirstChecks.{check, known_of, line_of}
use Rattle.module_image.specs.declared.image.Image.{Image}
use Rattle.asm_core.specs.declared.pending.Pending.{Pending}
use Rattle.asm_core.specs.declared.pending.Refused.{Refused}
use Rattle.asm_core.specs.declared.lines.AsmLines.{AsmLines}
use Rattle.asm_core.specs.declared.taken.TakenLine.{TakenLine}
use Rattle.asm_core.specs.TakenLines.{names_in}
use Rattle.asm_defs.proofs.CheckLaws.{checked_parses}
use Rattle.asm_core.specs.Building.{ImageOf, IsWorked, IsAfter, Takes}
use Rattle.asm_core.specs.Adding.{Counts}
use Rattle.asm_core.proofs.BlankLaws.{nothing_at, nothing_parsed, here_again, image_still, still_reached}
use Rattle.asm_core.proofs.LineLaws.{location_more}
use Rattle.asm_core.proofs.WorkedLaws.{worked_stopped, nothing_more}

unchanged : (names : Names) → Grows names names
unchanged names name value is = is

module _ (lines : List Line) (names : Names) (line : Line) (parses : line.statement ≡ Nothing) (image image' : Option Image) (ready : IsSome image')
    (made : (founds : List AssembledLine) → ImageOf founds image → ImageOf founds image') (waiting : List Pending) where
  worked_on : (refused : Option Refused) → IsWorked lines names image waiting refused → IsWorked (line ∷ lines) names image' waiting refused
  worked_on None is =
      nothing_more names names (unchanged names) lines line image waiting is image' parses
      (λ placed. image_still (place lines line) (onto [] is.founds) image' ready (made (onto [] is.founds) placed))
  worked_on (Some refused) is = worked_stopped names names (unchanged names) lines line (Some refused)
      (Some refused) image image' waiting waiting refl refl refl is

module _ (lines : List Line) (text : List ℕ) (old new : AsmLines) (none : fields text ≡ Ok no_fields) (counts : Counts old new) (is : IsAfter lines old) where
  abbrev line : Line
  line = line_of (length lines + 1) (nothing_at (location lines))

  here : is_in_part (location lines) ≡ true
  here = ap is_in_part (sym is.location) ∙ old.placed

  checks : check lines (length lines + 1) text ≡ Ok line
  checks = ap (λ answer. answer >>= λ found. Ok (line_of (length lines + 1) found)) (nothing_parsed (known_of lines) text none here)

  stays : location (line ∷ lines) ≡ location lines
  stays = location_more (length lines + 1) (nothing_at (location lines)) lines ∙ here_again (location lines)

  worked : IsWorked (line ∷ lines) new.symbols new.image new.waiting.items new.refused
  worked =
      rw (counts.names.symbols, counts.waiting, counts.refused)
      (worked_on lines old.symbols line refl old.image new.image counts.ready counts.image old.waiting.items old.refused is.worked)

  pub counted : (known : TakenLine) → known.at ≡ new.location → known.origin ≡ None → names_in known ≡ [] → Takes lines text (Ok known) new
  counted known at no_origin no_names = (
    line,
    checks,
    record {
      names = counts.names.symbols ∙ is.names;
      location = counts.location ∙ (is.location ∙ sym stays);
      reached = counts.reached ∙ (is.reached ∙ sym (still_reached lines (location (line ∷ lines)) stays));
      title = counts.title ∙ is.title;
      defs = counts.names.defs ∙ (is.defs ∙ sym (append-nil _));
      refs = counts.names.refs ∙ (is.refs ∙ sym (append-nil _));
      taken = omega (arith, counts.taken, is.taken);
      ended = counts.ended ∙ is.ended;
      worked = worked;
    },
    record {
      at = at ∙ (counts.location ∙ (is.location ∙ sym (here_again (location lines))));
      origin = no_origin;
      names = sym no_names;
      parsed = checked_parses (known_of lines) text (nothing_at (location lines)) (nothing_parsed (known_of lines) text none here);
    },
  )
