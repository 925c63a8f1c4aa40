-- What a builder ends with.
use Rattle.std.specs.Prelude.{◌≡◌, ℕ, List, [], ◌∷◌, ◌++◌, Result, Ok, Err}
use Rattle.source_defs.specs.Refusals.{Refusal}
use Rattle.source_defs.specs.Lines.{numbered}
use Rattle.expression_defs.specs.Layout.{line_layout}
use Rattle.gpl_source_defs.specs.declared.causes.GplCause.{GplCause}
use Rattle.gpl_source_defs.specs.FirstChecks.{check}
use Rattle.gpl_source_defs.specs.Programs.{Program}
use Rattle.gpl_asm.specs.declared.error.GplError.{GplError}
use Rattle.gpl_asm.specs.declared.finish.GplProgram.{GplProgram}
use Rattle.gpl_asm.specs.declared.lines.GplLines.{GplLines}
use Rattle.gpl_asm.specs.Errors.{RefusesAt}
use Rattle.gpl_asm.specs.Building.{HasAccepted}

abbrev pub model_of_program : GplProgram → Program
model_of_program program = record { image = program.image; entry = program.entry; names = program.names }

-- the program that is defined, or the refused line; if memory ran out, nothing is stated
abbrev pub GivesProgram : Result GplProgram GplError → Result Program (Refusal GplCause) → Type 0
GivesProgram (Ok found) defined = defined ≡ Ok (model_of_program found)
GivesProgram (Err error) defined = RefusesAt error defined

-- a line was taken after others, or the first checks refuse it there
abbrev pub AcceptsText : {A : Type 0} → List (List ℕ) → List ℕ → Result A GplError → GplLines → Type 0
AcceptsText texts text (Ok _) builder = HasAccepted (texts ++ text ∷ []) builder
AcceptsText texts text (Err error) builder =
    RefusesAt error (line_layout check (numbered 1 (texts ++ text ∷ []))) × HasAccepted texts builder
