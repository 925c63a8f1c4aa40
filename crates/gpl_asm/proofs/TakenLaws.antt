-- Lines that are taken one after the other.
use Rattle.std.proofs.Common.{◌≡◌, ℕ, ◌+◌, false, List, [], ◌∷◌, ◌++◌, Ok, Err, length, sym, ap, ◌∙◌, arith, length-append}
use Rattle.std.specs.Prelude.{Result}
use Rattle.source_defs.specs.Refusals.{◌>>=◌, at_line}
use Rattle.source_defs.specs.Lines.{numbered}
use Rattle.expression_defs.specs.Layout.{line_layout, has_ended}
use Rattle.expression_defs.proofs.LayoutLaws.{last_line, layout_more}
use Rattle.gpl_source_defs.specs.FirstChecks.{check}
use Rattle.gpl_asm.specs.Building.{Takes, HasAccepted}
use Rattle.gpl_asm.specs.Finishing.{AcceptsText}
use Rattle.gpl_asm.specs.declared.error.GplError.{GplError}
use Rattle.gpl_asm.specs.declared.error.GplError.TheVariants.{At, Memory}
use Rattle.gpl_asm.specs.declared.lines.GplLines.{GplLines}
use Rattle.gpl_asm.specs.declared.taken.TakenLine.{TakenLine}

-- a line that was taken, by the texts of the lines
module _ (texts : List (List ℕ)) (text : List ℕ) (builder new : GplLines) (taken : HasAccepted texts builder) (going : has_ended taken.lines ≡ false) where
  abbrev count : ℕ
  count = length taken.lines + 1

  whole_is : line_layout check (numbered 1 (texts ++ text ∷ [])) ≡ last_line check text taken.lines count
  whole_is = layout_more check text texts [] 1 count taken.lines (omega (arith, taken.all)) taken.line_layout going

  pub takes_text : (result : Result TakenLine GplError) → Takes taken.lines text result new → AcceptsText texts text result new
  takes_text (Ok value) takes = record {
    lines = takes.0 ∷ taken.lines;
    line_layout = whole_is ∙ ap (λ answer. at_line count answer >>= λ line. Ok (line ∷ taken.lines)) takes.1;
    all = omega (arith, taken.all, length-append texts (text ∷ []));
    after_lines = takes.2;
  }
  takes_text (Err Memory) takes = (tt, record { lines = taken.lines; line_layout = taken.line_layout; all = taken.all; after_lines = takes })
  takes_text (Err (At number cause)) takes = (
    (
      whole_is ∙ (ap (λ answer. at_line count answer >>= λ line. Ok (line ∷ taken.lines)) takes.1
          ∙ ap (λ number. Err (record { line = number; cause = cause })) (sym takes.0)),
      takes.2,
    ),
    record { lines = taken.lines; line_layout = taken.line_layout; all = taken.all; after_lines = takes.3 },
  )
