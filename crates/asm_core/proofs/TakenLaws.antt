-- Lines that are taken one after the other.
use Rattle.std.proofs.Common.{◌≡◌, ℕ, ◌+◌, Bool, true, false, ◌||◌, List, [], ◌∷◌, ◌++◌, Ok, Err, length, refl, sym, ap, ◌∙◌, arith, length-append}
use Rattle.std.specs.Prelude.{Result, if◌then◌else◌}
use Rattle.source_defs.specs.Lines.{lines, numbered}
use Rattle.source_defs.specs.Refusals.{Refusal, ◌>>=◌, at_line}
use Rattle.expression_defs.specs.Layout.{line_layout, layout_after}
use Rattle.asm_defs.specs.declared.causes.AsmCause.{AsmCause}
use Rattle.asm_defs.specs.Locations.{Line}
use Rattle.asm_defs.specs.FirstChecks.{check}
use Rattle.expression_defs.specs.Layout.{has_ended}
use Rattle.asm_core.specs.declared.taken.TakenLine.{TakenLine}
use Rattle.asm_core.specs.Building.{Takes, HasAccepted}
use Rattle.asm_core.specs.Finishing.{AcceptsText}
use Rattle.asm_core.specs.declared.error.AsmError.{AsmError}
use Rattle.asm_core.specs.declared.error.AsmError.TheVariants.{At, Memory}
use Rattle.asm_checks.specs.declared.failure.Failure.TheVariants.{Refused}
use Rattle.asm_core.specs.declared.lines.AsmLines.{AsmLines}
use Rattle.asm_core.proofs.ResolveLaws.{refuses_by}

abbrev after_line : List Line → List (ℕ × List ℕ) → Line → Result (List Line) (Refusal AsmCause)
after_line before rest found = if found.last then Ok (found ∷ before) else layout_after check (found ∷ before) rest

abbrev answers : Result (List Line) (Refusal AsmCause) → Result (List Line) (Refusal AsmCause) → Type 0
answers a b = a ≡ b

either : (b : Bool) (found : List Line) → answers (if b then Ok found else Ok found) (Ok found)
either true found = refl
either false found = refl

module _ (text : List ℕ) where
  abbrev last_line : List Line → ℕ → Result (List Line) (Refusal AsmCause)
  last_line lines number = at_line number (check lines number text) >>= λ line. Ok (line ∷ lines)

  end_by : (before : List Line) (number : ℕ) (answer : Result Line (Refusal AsmCause))
      → (answer >>= after_line before []) ≡ (answer >>= λ line. Ok (line ∷ before))
  end_by before number (Ok found) = either found.last (found ∷ before)
  end_by before number (Err refusal) = refl

  step_by : (before : List Line) (rest more : List (ℕ × List ℕ)) (whole : Result (List Line) (Refusal AsmCause)) (lines : List Line) (found : Line) (b : Bool)
      → found.last ≡ b → (if b then Ok (found ∷ before) else layout_after check (found ∷ before) rest) ≡ Ok lines → has_ended lines ≡ false
      → (layout_after check (found ∷ before) rest ≡ Ok lines → layout_after check (found ∷ before) more ≡ whole)
      → (if b then Ok (found ∷ before) else layout_after check (found ∷ before) more) ≡ whole
  step_by before rest more whole lines found true last is going next =
      let same : found ∷ before ≡ lines = cc is in
      let ended : has_ended lines ≡ true = sym (ap has_ended same) ∙ ap (λ b. b || has_ended before) last in
      cc (ended, going)
  step_by before rest more whole lines found false last is going next = next is

  step : (before : List Line) (rest more : List (ℕ × List ℕ)) (whole : Result (List Line) (Refusal AsmCause)) (lines : List Line)
      (answer : Result Line (Refusal AsmCause)) → (answer >>= after_line before rest) ≡ Ok lines → has_ended lines ≡ false
      → ((found : Line) → layout_after check (found ∷ before) rest ≡ Ok lines → layout_after check (found ∷ before) more ≡ whole)
      → (answer >>= after_line before more) ≡ whole
  step before rest more whole lines (Ok found) is going next =
      step_by before rest more whole lines found found.last refl is going (next found)
  step before rest more whole lines (Err refusal) is going next = cc is

  -- one line more, where none of those before ends the source
  pub layout_more : (texts : List (List ℕ)) (before : List Line) (number last : ℕ) (lines : List Line) → last ≡ number + length texts
      → layout_after check before (numbered number texts) ≡ Ok lines → has_ended lines ≡ false
      → layout_after check before (numbered number (texts ++ text ∷ [])) ≡ last_line lines last
  layout_more [] before number last lines e is going =
      let same : before ≡ lines = cc is in
      let at : number ≡ last = omega (arith, e) in
      end_by before number (at_line number (check before number text))
      ∙ (ap (λ (lines : List Line). last_line lines number) same ∙ ap (last_line lines) at)
  layout_more (first ∷ texts) before number last lines e is going =
      step before (numbered (number + 1) texts) (numbered (number + 1) (texts ++ text ∷ [])) (last_line lines last) lines
      (at_line number (check before number first)) is going
      (λ found next. layout_more texts (found ∷ before) (number + 1) last lines (omega (arith, e)) next going)

-- a line that was taken, by the texts of the lines
module _ (texts : List (List ℕ)) (text : List ℕ) (builder new : AsmLines) (taken : HasAccepted texts builder) (going : has_ended taken.lines ≡ false) where
  abbrev count : ℕ
  count = length taken.lines + 1

  whole_is : line_layout check (numbered 1 (texts ++ text ∷ [])) ≡ last_line text taken.lines count
  whole_is = layout_more text texts [] 1 count taken.lines (omega (arith, taken.all)) taken.line_layout going

  pub takes_text : (result : Result TakenLine AsmError) → Takes taken.lines text result new → AcceptsText texts text result new
  takes_text (Ok value) takes = record {
    lines = takes.0 ∷ taken.lines;
    line_layout = whole_is ∙ ap (λ answer. at_line count answer >>= λ line. Ok (line ∷ taken.lines)) takes.1;
    all = omega (arith, taken.all, length-append texts (text ∷ []));
    after_lines = takes.2;
  }
  takes_text (Err Memory) takes = (tt, record { lines = taken.lines; line_layout = taken.line_layout; all = taken.all; after_lines = takes })
  takes_text (Err (At number cause)) takes = (
    refuses_by (Refused cause) number (check taken.lines count text) (line_layout check (numbered 1 (texts ++ text ∷ []))) takes.1
        (λ refused e.
        whole_is ∙ (ap (λ answer. at_line count answer >>= λ line. Ok (line ∷ taken.lines)) e
        ∙ ap (λ number. Err (record { line = number; cause = refused })) (sym takes.0))),
    record { lines = taken.lines; line_layout = taken.line_layout; all = taken.all; after_lines = takes.2 },
  )
