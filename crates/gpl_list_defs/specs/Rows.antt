-- The rows of a listing: the lines of a GPL source with their addresses, and its names.
use Rattle.std.specs.Prelude.{ℕ, ◌==◌, nat_lt, if◌then◌else◌, List, [], ◌∷◌, ◌++◌, filter, map, Result, Ok, Err}
use Rattle.expression_defs.specs.Expression.{Value}
use Rattle.expression_defs.specs.Symbols.{Names, look_up}
use Rattle.expression_defs.specs.Layout.{set_or}
use Rattle.gpl_source_defs.specs.declared.causes.GplCause.{GplCause}
use Rattle.gpl_source_defs.specs.declared.location.Location.{Location}
use Rattle.gpl_source_defs.specs.Statements.{Statement}
use Rattle.gpl_source_defs.specs.Locations.{Line, place, origin_of}
use Rattle.gpl_source_defs.specs.SecondChecks.{Outcome, outcome}
use Rattle.gpl_source_defs.specs.Programs.{bytes_in}

-- a line by its number, its address, which is 65,536 after the last of all, the bytes that it places, and its text
pub record Row : Type 0 where
  pub number : ℕ
  pub at : ℕ
  pub bytes : List ℕ
  pub text : List ℕ

-- a name, what it stands for, and the number of the line that defines it
pub record NameRow : Type 0 where
  pub name : List ℕ
  pub value : Value
  pub line : ℕ

-- The address of a line at a place. Profile: GROM and AORG are at the address that they set.
abbrev pub address : Location → Statement → ℕ
address at statement = (set_or (origin_of at statement) at).number

-- what is listed of the bytes of a line, by its place and what it says
abbrev pub ListsBytes : Type 0
ListsBytes = Location → Statement → List ℕ

-- none
abbrev pub no_bytes : ListsBytes
no_bytes at statement = []

-- the bytes that it places, by all names
abbrev pub outcome_bytes : Result Outcome GplCause → List ℕ
outcome_bytes (Ok found) = bytes_in found
outcome_bytes (Err cause) = []

abbrev pub placed_bytes : Names → ListsBytes
placed_bytes known at statement = outcome_bytes (outcome (look_up known) at statement)

-- the text of the line with a number
abbrev pub text_of : List (ℕ × List ℕ) → ℕ → List ℕ
text_of [] number = []
text_of (line ∷ lines) number = if line.0 == number then line.1 else text_of lines number

-- A line as a row: its number, its address, what is listed of its bytes, and its text.
abbrev pub row_of : ListsBytes → List (ℕ × List ℕ) → List Line → Line → Row
row_of listed texts before line =
    let at = place before line in
    record {
      number = line.number;
      at = address at line.statement;
      bytes = listed at line.statement;
      text = text_of texts line.number;
    }

-- The rows of lines, of which the nearest comes first, in their order.
abbrev pub rows : ListsBytes → List (ℕ × List ℕ) → List Line → List Row
rows listed texts [] = []
rows listed texts (line ∷ before) = rows listed texts before ++ row_of listed texts before line ∷ []

-- the names that a line defines
abbrev pub names_in : Line → List NameRow
names_in line = map (λ entry. record { name = entry.0; value = entry.1; line = line.number }) line.names

-- Profile: names are in the order in which they are defined.
abbrev pub name_rows : List Line → List NameRow
name_rows [] = []
name_rows (line ∷ before) = name_rows before ++ names_in line

-- the lines before the one with a number
abbrev pub lines_before : ℕ → List Line → List Line
lines_before number lines = filter (λ line. nat_lt line.number number) lines
