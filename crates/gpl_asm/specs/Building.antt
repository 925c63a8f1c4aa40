-- What a builder keeps of the lines that it has taken.
use Rattle.std.specs.Prelude.{◌≡◌, ℕ, ◌+◌, List, ◌∷◌, length, Result, Ok, Err, ◌<◌, ◌≤◌, ◌-◌, ◌^◌, IsFalse}
use Rattle.source_defs.specs.Refusals.{Refusal, ◌>>=◌}
use Rattle.expression_defs.specs.Symbols.{Names}
use Rattle.expression_defs.specs.Growing.{Grows}
use Rattle.source_defs.specs.Lines.{numbered}
use Rattle.expression_defs.specs.Layout.{line_layout, assembled_lines, has_ended}
use Rattle.gpl_source_defs.specs.declared.causes.GplCause.{GplCause}
use Rattle.gpl_source_defs.specs.Locations.{Line, location, place}
use Rattle.gpl_source_defs.specs.FirstChecks.{names, check, label_entry}
use Rattle.gpl_source_defs.specs.Programs.{AssembledLine, assembled_line, image, entry}
use Rattle.gpl_asm.specs.declared.lines.GplLines.{GplLines}
use Rattle.gpl_asm.specs.declared.taken.TakenLine.{TakenLine}
use Rattle.gpl_asm.specs.declared.error.GplError.{GplError}
use Rattle.gpl_asm.specs.declared.error.GplError.TheVariants as error
use Rattle.gpl_asm.specs.Replay.{Built, nothing, replay}
use Rattle.gpl_lines.specs.Answers.{NoMemory}

abbrev pub built_of : List AssembledLine → Built
built_of found = record { image = image found; entry = entry found }

-- the outcomes of lines by all names
abbrev pub whole : Names → List Line → Result Built (Refusal GplCause)
whole later lines = assembled_lines (assembled_line later) lines >>= λ found. Ok (built_of found)

-- the builder after lines, of which the nearest comes first
pub record IsAfter (lines : List Line) (builder : GplLines) : Type 0 where
  pub names : builder.symbols ≡ names lines
  pub location : builder.location ≡ location lines
  pub taken : builder.taken ≡ length lines
  pub ended : builder.ended ≡ has_ended lines
  -- whatever names are still to come, the outcomes of the lines that wait lead to those of all lines
  pub replays : (later : Names) → Grows builder.symbols later
      → whole later lines ≡ replay later nothing builder.waiting.items

-- what is returned of a line that was taken after others
pub record DescribesLine (lines : List Line) (line : Line) (known : TakenLine) : Type 0 where
  pub at : known.at ≡ place lines line
  pub origin : known.origin ≡ line.origin
  pub names : line.names ≡ label_entry known.label known.value
  -- it ends before the addresses do
  pub room : known.at.number + line.size ≤ 65536

-- a line was taken after others, or why it is refused there
abbrev pub Takes : List Line → List ℕ → Result TakenLine GplError → GplLines → Type 0
Takes lines text (Ok known) builder =
    (line : Line) × (check lines (length lines + 1) text ≡ Ok line)
    × IsAfter (line ∷ lines) builder × DescribesLine lines line known
Takes lines text (Err (error.At number cause)) builder =
    (number ≡ length lines + 1) × (check lines (length lines + 1) text ≡ Err cause) × NoMemory cause
    × IsAfter lines builder
Takes lines text (Err error.Memory) builder = IsAfter lines builder

-- The meaning of a builder: the texts of the lines that it has taken.
pub record HasAccepted (texts : List (List ℕ)) (builder : GplLines) : Type 0 where
  pub lines : List Line
  pub line_layout : line_layout check (numbered 1 texts) ≡ Ok lines
  pub all : length lines ≡ length texts
  pub after_lines : IsAfter lines builder

-- no line that it has taken ends the source
abbrev pub IsOpen : GplLines → Type 0
IsOpen builder = IsFalse builder.ended

-- it has taken fewer lines than can be counted
abbrev pub CanCount : GplLines → Type 0
CanCount builder = builder.taken < 2 ^ 32 - 1
