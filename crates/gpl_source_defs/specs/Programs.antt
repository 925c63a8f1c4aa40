-- The program of a GPL source: its image, its entry and its names.
use Rattle.std.specs.Prelude.{ℕ, ◌+◌, Bool, false, ◌||◌, if◌then◌else◌, List, [], ◌∷◌, Option, Some, None, Result, Ok}
use Rattle.std.specs.Prelude.{Err}
use Rattle.std.specs.FinMap.{empty, contains_key}
use Rattle.source_defs.specs.Refusals.{Refusal, ◌>>=◌}
use Rattle.expression_defs.specs.Symbols.{Names, look_up}
use Rattle.source_defs.specs.Lines.{numbered, line_texts}
use Rattle.expression_defs.specs.Layout.{line_layout, assembled_lines}
use Rattle.gpl_defs.specs.Image.{Image, placed}
use Rattle.gpl_source_defs.specs.declared.causes.GplCause.{GplCause}
use Rattle.gpl_source_defs.specs.declared.causes.GplCause.TheVariants.{Overlap}
use Rattle.gpl_source_defs.specs.declared.location.Location.{Location}
use Rattle.gpl_source_defs.specs.Statements.{Statement}
use Rattle.gpl_source_defs.specs.Locations.{Line, place}
use Rattle.gpl_source_defs.specs.FirstChecks.{check, names}
use Rattle.gpl_source_defs.specs.SecondChecks.{Outcome, Bytes, Entry, outcome}

-- a line by its address and its outcome
pub record AssembledLine : Type 0 where
  pub at : ℕ
  pub outcome : Outcome

abbrev pub bytes_in : Outcome → List ℕ
bytes_in (Bytes bytes) = bytes
bytes_in (Entry address) = []

abbrev pub entry_by : Option ℕ → Outcome → Option ℕ
entry_by entry (Bytes bytes) = entry
entry_by entry (Entry address) = Some address

-- The image of lines: the bytes of each begin at its address.
abbrev pub image : List AssembledLine → Image
image [] = empty
image (line ∷ before) = placed (image before) line.at (bytes_in line.outcome)

-- the entry that END gives
abbrev pub entry : List AssembledLine → Option ℕ
entry [] = None
entry (line ∷ before) = entry_by (entry before) line.outcome

-- one of some bytes from an address on is where one was placed
abbrev pub overlaps : Image → ℕ → List ℕ → Bool
overlaps image at [] = false
overlaps image at (byte ∷ bytes) = contains_key image at || overlaps image (at + 1) bytes

-- Profile: no byte is placed where one was placed before.
abbrev pub with_room : List AssembledLine → AssembledLine → Result AssembledLine GplCause
with_room earlier line =
    if overlaps (image earlier) line.at (bytes_in line.outcome) then Err Overlap else Ok line

-- The second checks of what a line says at a place after others, by all names. Profile: its values, their ranges, then
-- its room.
abbrev pub assembled_at : Names → Location → Statement → List AssembledLine → Result AssembledLine GplCause
assembled_at known at statement earlier = do
  found ← outcome (look_up known) at statement
  with_room earlier (record { at = at.number; outcome = found })

abbrev pub assembled_line : Names → List Line → List AssembledLine → Line → Result AssembledLine GplCause
assembled_line known before earlier line = assembled_at known (place before line) line.statement earlier

-- what a source is assembled to
pub record Program : Type 0 where
  pub image : Image
  pub entry : Option ℕ
  pub names : Names

abbrev pub program_by : List Line → List AssembledLine → Program
program_by lines assembled_lines =
    record { image = image assembled_lines; entry = entry assembled_lines; names = names lines }

-- the program of lines that the first checks accept
abbrev pub program_after : List Line → Result Program (Refusal GplCause)
program_after lines = assembled_lines (assembled_line (names lines)) lines >>= λ found. Ok (program_by lines found)

-- the program of numbered lines, or the first that is refused: by the first checks, else by the second
abbrev pub program_of : List (ℕ × List ℕ) → Result Program (Refusal GplCause)
program_of lines = do
  found ← line_layout check lines
  program_after found

-- the program of some lines, which count from 1
abbrev pub program_of_lines : List (List ℕ) → Result Program (Refusal GplCause)
program_of_lines lines = program_of (numbered 1 lines)

abbrev pub program_of_source : List ℕ → Result Program (Refusal GplCause)
program_of_source source = program_of (line_texts source)
