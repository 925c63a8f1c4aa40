-- What more lines change of the lines that were placed.
use Rattle.std.proofs.Common.{◌≡◌, ℕ, ◌+◌, Bool, true, false, List, [], ◌∷◌, ◌++◌, Ok, Err, sym, ap, ◌∙◌, subst, arith}
use Rattle.std.proofs.Common.{append_assoc, append-nil, length-append, refl, lit<}
use Rattle.std.specs.Prelude.{⊤, Result, if◌then◌else◌}
use Rattle.source_defs.specs.Refusals.{Refusal, ◌>>=◌, at_line}
use Rattle.source_defs.specs.Lines.{numbered}
use Rattle.expression_defs.specs.Layout.{line_layout, layout_after, has_ended}
use Rattle.asm_defs.specs.declared.causes.AsmCause.{AsmCause}
use Rattle.asm_defs.specs.Locations.{Line}
use Rattle.asm_defs.specs.FirstChecks.{check}
use Rattle.asm_defs.specs.Modules.{module_after, module_of, module_of_lines, module_of_source}
use Rattle.asm_core.specs.Building.{HasAccepted}
use Rattle.asm_core.specs.Finishing.{RefusesAt}
use Rattle.asm_core.specs.declared.lines.AsmLines.{AsmLines}
use Rattle.asm_core.specs.declared.error.AsmError.{AsmError}
use Rattle.asm_core.proofs.ResolveLaws.{refuses_on}
use Rattle.native_interp.specs.Source.{lines, source}
use Rattle.line_table.proofs.Joined.{source_lines}
use Rattle.gpl_run.specs.Feeding.{HasLeft}

abbrev Answer : Type 0
Answer = Result (List Line) (Refusal AsmCause)

-- a line is refused, or ends the source
abbrev IsFinal : Answer → Type 0
IsFinal (Ok lines) = has_ended lines ≡ true
IsFinal (Err refusal) = ⊤

abbrev after_line : List Line → List (ℕ × List ℕ) → Line → Answer
after_line before rest found = if found.last then Ok (found ∷ before) else layout_after check (found ∷ before) rest

-- then more lines change nothing
module _ (more : List (List ℕ)) where
  by_last : (before : List Line) (rest longer : List (ℕ × List ℕ)) (answer : Answer) (found : Line) (last : Bool) → found.last ≡ last
      → (if last then Ok (found ∷ before) else layout_after check (found ∷ before) rest) ≡ answer → has_ended before ≡ false
      → (has_ended (found ∷ before) ≡ false → layout_after check (found ∷ before) rest ≡ answer → layout_after check (found ∷ before) longer ≡ answer)
      → (if last then Ok (found ∷ before) else layout_after check (found ∷ before) longer) ≡ answer
  by_last before rest longer answer found true is e going next = e
  by_last before rest longer answer found false is e going next = next (rw is going) e

  by_answer : (before : List Line) (rest longer : List (ℕ × List ℕ)) (number : ℕ) (answer : Answer) (checked : Result Line AsmCause)
      → (at_line number checked >>= after_line before rest) ≡ answer → has_ended before ≡ false
      → ((found : Line) → has_ended (found ∷ before) ≡ false → layout_after check (found ∷ before) rest ≡ answer
      → layout_after check (found ∷ before) longer ≡ answer)
      → (at_line number checked >>= after_line before longer) ≡ answer
  by_answer before rest longer number answer (Ok found) e going next = by_last before rest longer answer found found.last refl e going (next found)
  by_answer before rest longer number answer (Err cause) e going next = e

  pub final_stays : (texts : List (List ℕ)) (before : List Line) (number : ℕ) (answer : Answer) → has_ended before ≡ false
      → layout_after check before (numbered number texts) ≡ answer → IsFinal answer → layout_after check before (numbered number (texts ++ more)) ≡ answer
  final_stays [] before number answer going e final =
      let ended : has_ended before ≡ true = subst IsFinal (sym e) final in
      cc (going, ended)
  final_stays (text ∷ texts) before number answer going e final =
      by_answer before (numbered (number + 1) texts) (numbered (number + 1) (texts ++ more)) number answer (check before number text) e going
      (λ found going e. final_stays texts (found ∷ before) (number + 1) answer going e final)

-- the next line of the source
module _ (left : List (List ℕ)) (text : List ℕ) (old : AsmLines) (has : HasLeft (text ∷ left) old) where
  -- it is taken
  pub goes_on : (new : AsmLines) → HasAccepted (has.texts ++ text ∷ []) new → HasLeft left new
  goes_on new taken = record {
    texts = has.texts ++ text ∷ [];
    taken = taken;
    makes = ap module_of_lines (append_assoc has.texts (text ∷ []) left) ∙ has.makes;
    few = omega (arith, has.few, length-append has.texts (text ∷ []));
  }

  -- or the source has ended before it
  pub stays_ended : has_ended has.taken.lines ≡ true → HasLeft left old
  stays_ended ended =
      let layout_as : (more : List (List ℕ)) → line_layout check (numbered 1 (has.texts ++ more)) ≡ Ok has.taken.lines =
      λ more. final_stays more has.texts [] 1 (Ok has.taken.lines) refl has.taken.line_layout ended in
      record {
        texts = has.texts;
        taken = has.taken;
        makes = ap (λ (answer : Answer). answer >>= module_after) (layout_as left ∙ sym (layout_as (text ∷ left))) ∙ has.makes;
        few = omega (arith, has.few);
      }

  -- or it is refused, as the source is then
  pub refused : (error : AsmError) → RefusesAt error (line_layout check (numbered 1 (has.texts ++ text ∷ []))) → RefusesAt error (module_of_source source)
  refused error refuses =
      refuses_on error _ _
      (λ refusal e.
      sym has.makes
      ∙ ap (λ (answer : Answer). answer >>= module_after)
      (ap (λ texts. line_layout check (numbered 1 texts)) (sym (append_assoc has.texts (text ∷ []) left))
      ∙ final_stays left (has.texts ++ text ∷ []) [] 1 (Err refusal) refl e tt))
      refuses

-- no line was taken
pub none_taken : (builder : AsmLines) → HasAccepted [] builder → HasLeft lines builder
none_taken builder none = record { texts = []; taken = none; makes = ap module_of (sym source_lines); few = lit< tt }

-- all were
pub all_taken : (builder : AsmLines) (has : HasLeft [] builder) → module_of_lines has.texts ≡ module_of_source source
all_taken builder has = ap module_of_lines (sym (append-nil has.texts)) ∙ has.makes
