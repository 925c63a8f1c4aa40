-- The lines of a source, one after the other.
use Rattle.std.proofs.Common.{◌≡◌, ℕ, ◌+◌, Bool, true, false, ◌||◌, List, [], ◌∷◌, Ok, Err, length, refl, sym, ap, ◌∙◌}
use Rattle.std.specs.Prelude.{Result, map, ⊤}
use Rattle.source_defs.specs.declared.text.Line.{Line as TextLine}
use Rattle.source_defs.specs.declared.text.Span.{Span}
use Rattle.source_defs.specs.Lines.{part, lines, lines_from, numbered_from}
use Rattle.source_defs.specs.Refusals.{Refusal}
use Rattle.expression_defs.specs.Layout.{layout_after}
use Rattle.asm_defs.specs.declared.causes.AsmCause.{AsmCause}
use Rattle.asm_defs.specs.Locations.{Line}
use Rattle.asm_defs.specs.FirstChecks.{check}
use Rattle.asm_core.specs.declared.taken.TakenLine.{TakenLine}
use Rattle.asm_core.specs.Building.{Takes}
use Rattle.asm_core.specs.Finishing.{RefusesAt}
use Rattle.asm_core.specs.declared.error.AsmError.{AsmError}
use Rattle.asm_core.specs.declared.error.AsmError.TheVariants.{At, Memory}
use Rattle.asm_checks.specs.declared.failure.Failure.TheVariants.{Refused}
use Rattle.asm_core.specs.declared.lines.AsmLines.{AsmLines}
use Rattle.asm_core.proofs.ResolveLaws.{refuses_by}

-- lines that count from a number on
abbrev pub IsNumbered : ℕ → List TextLine → Type 0
IsNumbered number [] = ⊤
IsNumbered number (line ∷ lines) = (line.number ≡ number) × IsNumbered (number + 1) lines

numbers : (number : ℕ) (spans : List Span) → IsNumbered number (numbered_from number spans)
numbers number [] = tt
numbers number (span ∷ spans) = (refl, numbers (number + 1) spans)

pub lines_numbered : (text : List ℕ) → IsNumbered 1 (lines text)
unfolding lines_from
lines_numbered text = numbers 1 _

abbrev pub texts_of : List ℕ → List TextLine → List (ℕ × List ℕ)
texts_of text lines = map (λ line. (line.number, part text line.span)) lines

abbrev answers : AsmError → Result TakenLine AsmError
answers error = Err error

module _ (text : List ℕ) (before : List Line) (line : TextLine) (rest : List TextLine) (is : line.number ≡ length before + 1) where
  abbrev whole : Result (List Line) (Refusal AsmCause)
  whole = layout_after check before (texts_of text (line ∷ rest))

  pub refused_there : (error : AsmError) (new : AsmLines) → Takes before (part text line.span) (answers error) new → RefusesAt error whole
  refused_there Memory new takes = tt
  refused_there (At number cause) new takes =
      refuses_by (Refused cause) number (check before (length before + 1) (part text line.span)) whole takes.1
      (λ refused e.
      let there : check before line.number (part text line.span) ≡ Err refused = ap (λ number. check before number (part text line.span)) is ∙ e in
      rw there (ap (λ number. Err (record { line = number; cause = refused })) (is ∙ sym takes.0)))

  -- the line that ends the source, and one that does not
  pub ends_there : (found : Line) → check before (length before + 1) (part text line.span) ≡ Ok found → found.last ≡ true → whole ≡ Ok (found ∷ before)
  ends_there found e last =
      let there : check before line.number (part text line.span) ≡ Ok found = ap (λ number. check before number (part text line.span)) is ∙ e in
      rw there (rw last refl)

  pub goes_on : (found : Line) → check before (length before + 1) (part text line.span) ≡ Ok found → found.last ≡ false
      → whole ≡ layout_after check (found ∷ before) (texts_of text rest)
  goes_on found e last =
      let there : check before line.number (part text line.span) ≡ Ok found = ap (λ number. check before number (part text line.span)) is ∙ e in
      rw there (rw last refl)

pub first_of_two : (a b : Bool) → (a || b) ≡ true → b ≡ false → a ≡ true
first_of_two true b e f = refl
first_of_two false b e f = cc (e, f)

pub none_of_two : (a b : Bool) → (a || b) ≡ false → a ≡ false
none_of_two true b e = cc e
none_of_two false b e = refl
