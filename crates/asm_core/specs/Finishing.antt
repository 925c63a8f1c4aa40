-- What a builder ends with.
use Rattle.std.specs.Prelude.{◌≡◌, ⊤, ℕ, List, [], ◌∷◌, ◌++◌, Result, Ok, Err}
use Rattle.source_defs.specs.Refusals.{Refusal}
use Rattle.source_defs.specs.Orders.{onto}
use Rattle.expression_defs.specs.Symbols.{Names}
use Rattle.source_defs.specs.Lines.{numbered}
use Rattle.expression_defs.specs.Layout.{assembled_lines, line_layout}
use Rattle.expression_defs.specs.declared.causes.ExprError.TheVariants as expr
use Rattle.instruction_defs.specs.declared.causes.FormError.TheVariants as form
use Rattle.object_defs.specs.Modules as object
use Rattle.object_defs.specs.Modules.{Reference}
use Rattle.object_tags.specs.Seen.{model_of_module}
use Rattle.object_tags.specs.declared.parts.Module.{Module}
use Rattle.asm_defs.specs.declared.causes.AsmCause.{AsmCause}
use Rattle.asm_defs.specs.declared.causes.AsmCause.TheVariants as cause
use Rattle.asm_defs.specs.Locations.{Line, reached}
use Rattle.asm_defs.specs.Memory.{AssembledLine}
use Rattle.asm_defs.specs.Modules.{assembled_line, title}
use Rattle.asm_defs.specs.FirstChecks.{check, names, defs}
use Rattle.module_image.specs.ResolvedLines.{SamePlaces}
use Rattle.asm_core.specs.Building.{HasAccepted}
use Rattle.asm_core.specs.declared.lines.AsmLines.{AsmLines}
use Rattle.asm_core.specs.declared.error.AsmError.{AsmError}
use Rattle.asm_core.specs.declared.error.AsmError.TheVariants.{At, Memory}
use Rattle.asm_core.specs.declared.second_pass.Output.{Output}
use Rattle.asm_core.specs.Resolving.{IsOutput}

-- the definitions refuse a line; no cause stands for a lack of memory
abbrev pub RefusesAt : {B : Type 0} → AsmError → Result B (Refusal AsmCause) → Type 0
RefusesAt Memory defined = ⊤
RefusesAt (At line (cause.Expr expr.Memory)) defined = ⊥
RefusesAt (At line (cause.Form form.Memory)) defined = ⊥
RefusesAt (At line (cause.Form (form.Expr expr.Memory))) defined = ⊥
RefusesAt (At line refused) defined = defined ≡ Err (record { line = line; cause = refused })

-- the lines were assembled, and what was known of each takes as much room
pub record AreResolved (unused : List Reference) (order : List Line) (founds : List AssembledLine) (known : Names)
    (old new : Output) : Type 0 where
  pub done : List AssembledLine
  pub assembled_lines : assembled_lines (assembled_line known) (onto [] order) ≡ Ok done
  pub places : SamePlaces (onto [] founds) done
  pub output : IsOutput unused [] founds old → IsOutput unused done [] new

-- or one is refused
abbrev pub ResolvesAll
    : {A : Type 0} → List Reference → List Line → List AssembledLine → Names → Result A AsmError → Output
    → Output → Type 0
ResolvesAll unused order founds known (Ok _) old new = AreResolved unused order founds known old new
ResolvesAll unused order founds known (Err error) old new =
    RefusesAt error (assembled_lines (assembled_line known) (onto [] order))

-- lines are refused where those before the refused one are assembled
abbrev pub StopsAfter : Names → List Line → List Line → List AssembledLine → List AssembledLine → AsmError → Type 0
StopsAfter known lines order founds done error =
    assembled_lines (assembled_line known) (onto [] order) ≡ Ok done → SamePlaces (onto [] founds) done
    → RefusesAt error (assembled_lines (assembled_line known) lines)

-- what a builder keeps for the module of its lines
pub record Knows (lines : List Line) (builder : AsmLines) : Type 0 where
  pub names : builder.symbols ≡ names lines
  pub reached : builder.reached ≡ reached lines
  pub title : builder.title ≡ title lines
  pub defs : builder.defs.items ≡ defs lines

pub record SameEnd (old new : AsmLines) : Type 0 where
  pub symbols : new.symbols ≡ old.symbols
  pub reached : new.reached ≡ old.reached
  pub title : new.title ≡ old.title
  pub defs : new.defs.items ≡ old.defs.items
  pub waiting : new.waiting ≡ old.waiting
  pub refused : new.refused ≡ old.refused

-- the module that is defined, or the refused line; if memory ran out, nothing is stated
abbrev pub GivesModule : Result Module AsmError → Result object.Module (Refusal AsmCause) → Type 0
GivesModule (Ok found) defined = defined ≡ Ok (model_of_module found)
GivesModule (Err error) defined = RefusesAt error defined

-- a line was taken after others, or the first checks refuse it there
abbrev pub AcceptsText : {A : Type 0} → List (List ℕ) → List ℕ → Result A AsmError → AsmLines → Type 0
AcceptsText texts text (Ok _) builder = HasAccepted (texts ++ text ∷ []) builder
AcceptsText texts text (Err error) builder =
    RefusesAt error (line_layout check (numbered 1 (texts ++ text ∷ []))) × HasAccepted texts builder
