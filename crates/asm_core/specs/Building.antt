-- What a builder keeps of the lines that it has taken.
use Rattle.std.specs.Prelude.{◌≡◌, ℕ, ◌+◌, ◌-◌, ◌<◌, ◌^◌, ◌⊎◌, List, [], ◌∷◌, length, Option, Some, None, IsTrue}
use Rattle.std.specs.Prelude.{IsFalse}
use Rattle.std.specs.Prelude.{Result, Ok, Err}
use Rattle.source_defs.specs.Orders.{onto}
use Rattle.expression_defs.specs.Symbols.{Names, look_up}
use Rattle.expression_defs.specs.Growing.{is_closed}
use Rattle.source_defs.specs.Lines.{numbered}
use Rattle.expression_defs.specs.Layout.{line_layout, has_ended}
use Rattle.object_defs.specs.Modules.{Reference}
use Rattle.asm_defs.specs.declared.causes.AsmCause.{AsmCause}
use Rattle.asm_defs.specs.Statements.{parse_line}
use Rattle.asm_defs.specs.Locations.{Line, location, place, reached}
use Rattle.asm_defs.specs.FirstChecks.{names, defs, refs, check}
use Rattle.asm_defs.specs.SecondChecks.{outcome}
use Rattle.asm_defs.specs.Memory.{AssembledLine}
use Rattle.asm_defs.specs.Modules.{title, assembled_line, with_room}
use Rattle.asm_defs.specs.Growing.{is_unresolved, held_place}
use Rattle.asm_checks.specs.Answers.{Causes}
use Rattle.asm_checks.specs.declared.failure.Failure.{Failure}
use Rattle.asm_checks.specs.declared.failure.Failure.TheVariants as failure
use Rattle.module_image.specs.Images.{IsImage}
use Rattle.module_image.specs.ResolvedLines.{AreAllResolved}
use Rattle.module_image.specs.declared.image.Image.{Image}
use Rattle.asm_core.specs.declared.lines.AsmLines.{AsmLines}
use Rattle.asm_core.specs.declared.error.AsmError.{AsmError}
use Rattle.asm_core.specs.declared.error.AsmError.TheVariants as error
use Rattle.asm_core.specs.declared.taken.TakenLine.{TakenLine}
use Rattle.asm_core.specs.TakenLines.{DescribesLine}
use Rattle.asm_core.specs.declared.pending.Pending.{Pending}
use Rattle.asm_core.specs.declared.pending.Refused.{Refused}

-- a line that waits, after others
pub record IsOf (before : List Line) (line : Line) (pending : Pending) : Type 0 where
  pub number : pending.number ≡ line.number
  pub at : pending.at ≡ place before line
  pub parsed : parse_line pending.text.items ≡ Ok line.statement

-- a line has an outcome by the names that are known
pub record IsKnown (known : Names) (before : List Line) (line : Line) (found : AssembledLine) : Type 0 where
  pub at : found.at ≡ place before line
  pub comes : outcome (look_up known) (place before line) line.statement ≡ Ok found.outcome

-- or it is the first that waits, and zeros hold its places
pub record IsWaiting (before : List Line) (line : Line) (found : AssembledLine) (waiting rest : List Pending)
    : Type 0 where
  pub first : Pending
  pub is : IsOf before line first
  pub held : found ≡ held_place (place before line) line.statement
  pub others : waiting ≡ first ∷ rest

-- what is known of lines in their order after others, and which of them wait
abbrev pub AreKnown : Names → List Line → List Line → List AssembledLine → List Pending → Type 0
AreKnown known before [] [] waiting = waiting ≡ []
AreKnown known before [] (found ∷ founds) waiting = ⊥
AreKnown known before (line ∷ lines) [] waiting = ⊥
AreKnown known before (line ∷ lines) (found ∷ founds) waiting =
    (IsKnown known before line found × AreKnown known (line ∷ before) lines founds waiting)
    ⊎ ((others : List Pending) × IsWaiting before line found waiting others
    × AreKnown known (line ∷ before) lines founds others)

-- what the lines place, whatever the names that others define; there is no image of no lines
abbrev pub ImageOf : List AssembledLine → Option Image → Type 0
ImageOf lines None = lines ≡ []
ImageOf lines (Some image) = (references : List Reference) → IsImage references lines image

-- no line is refused so far
pub record IsGoing (lines : List Line) (names : Names) (placed : Option Image) (waiting : List Pending) : Type 0 where
  pub order : List Line
  pub founds : List AssembledLine
  pub all : lines ≡ onto [] order
  pub known : AreKnown names [] order founds waiting
  pub resolved : AreAllResolved [] founds
  pub image : ImageOf (onto [] founds) placed

-- the second checks refuse a line after others, whatever names are still to come
abbrev pub Refuses : Names → List Line → List AssembledLine → Line → AsmCause → Option Pending → Type 0
Refuses known before earlier line cause None =
    IsTrue (is_closed is_unresolved (outcome (look_up known) (place before line) line.statement))
    × Causes cause (assembled_line known before earlier line)
Refuses known before earlier line cause (Some pending) =
    IsOf before line pending × Causes cause (with_room earlier (held_place (place before line) line.statement))

-- a line is refused, and no line after it counts
pub record IsStopped (refused : Refused) (lines : List Line) (names : Names) (waiting : List Pending) : Type 0 where
  pub order : List Line
  pub founds : List AssembledLine
  pub line : Line
  pub later : List Line
  pub all : lines ≡ onto (line ∷ onto [] order) later
  pub number : refused.line ≡ line.number
  pub known : AreKnown names [] order founds waiting
  pub resolved : AreAllResolved [] founds
  pub refuses : Refuses names (onto [] order) (onto [] founds) line refused.cause refused.waiting

abbrev pub IsWorked : List Line → Names → Option Image → List Pending → Option Refused → Type 0
IsWorked lines known image waiting None = IsGoing lines known image waiting
IsWorked lines known image waiting (Some refused) = IsStopped refused lines known waiting

-- the builder after lines, of which the nearest comes first
pub record IsAfter (lines : List Line) (builder : AsmLines) : Type 0 where
  pub names : builder.symbols ≡ names lines
  pub location : builder.location ≡ location lines
  pub reached : builder.reached ≡ reached lines
  pub title : builder.title ≡ title lines
  pub defs : builder.defs.items ≡ defs lines
  pub refs : builder.refs.items ≡ refs lines
  pub taken : builder.taken ≡ length lines
  pub ended : builder.ended ≡ has_ended lines
  pub worked : IsWorked lines builder.symbols builder.image builder.waiting.items builder.refused

-- what a refusal of a line is
abbrev pub refusal_at : ℕ → Failure → AsmError
refusal_at number (failure.Refused cause) = error.At number cause
refusal_at number failure.Memory = error.Memory

-- and of the line that is refused
abbrev pub error_of : Refused → AsmError
error_of refused = error.At refused.line refused.cause

-- a line was taken after others, or why it is refused there
abbrev pub Takes : List Line → List ℕ → Result TakenLine AsmError → AsmLines → Type 0
Takes lines text (Ok known) builder =
    (line : Line) × (check lines (length lines + 1) text ≡ Ok line) × IsAfter (line ∷ lines) builder
    × DescribesLine lines text line known
Takes lines text (Err (error.At number cause)) builder =
    (number ≡ length lines + 1) × Causes cause (check lines (length lines + 1) text) × IsAfter lines builder
Takes lines text (Err error.Memory) builder = IsAfter lines builder

-- The meaning of a builder: the texts of the lines that it has taken.
pub record HasAccepted (texts : List (List ℕ)) (builder : AsmLines) : Type 0 where
  pub lines : List Line
  pub line_layout : line_layout check (numbered 1 texts) ≡ Ok lines
  pub all : length lines ≡ length texts
  pub after_lines : IsAfter lines builder

-- no line that it has taken ends the source
abbrev pub IsOpen : AsmLines → Type 0
IsOpen builder = IsFalse builder.ended

-- it has taken fewer lines than can be counted
abbrev pub CanCount : AsmLines → Type 0
CanCount builder = builder.taken < 2 ^ 32 - 1
