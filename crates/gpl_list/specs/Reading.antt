-- What is kept of the lines that were read.
use Rattle.std.specs.Prelude.{◌≡◌, ⊤, ℕ, ◌+◌, ◌-◌, ◌≤◌, List, [], ◌∷◌, ◌++◌, length, map, take, Option, Some, None}
use Rattle.std.specs.Prelude.{Result, Ok, Err}
use Rattle.expression_defs.specs.Expression.{Absolute}
use Rattle.expression_defs.specs.Symbols.{Names}
use Rattle.expression_defs.specs.Growing.{Grows}
use Rattle.expression_defs.specs.Layout.{line_layout, set_or}
use Rattle.gpl_source_defs.specs.declared.location.Location.{Location}
use Rattle.gpl_source_defs.specs.Statements.{declared_size}
use Rattle.gpl_source_defs.specs.Locations.{Line, place}
use Rattle.gpl_source_defs.specs.FirstChecks.{check, names, parsed}
use Rattle.gpl_asm.specs.declared.error.GplError.{GplError}
use Rattle.gpl_asm.specs.declared.error.GplError.TheVariants.{At, Memory}
use Rattle.gpl_asm.specs.declared.taken.TakenLine.{TakenLine}
use Rattle.gpl_asm.specs.Building.{IsAfter, HasAccepted, IsOpen, CanCount}
use Rattle.gpl_list_defs.specs.Rows as spec
use Rattle.gpl_list.specs.declared.rows.Row.{Row}
use Rattle.gpl_list.specs.declared.rows.NameRow.{NameRow}
use Rattle.gpl_list.specs.declared.read.ReadLines.{ReadLines}

abbrev pub model_of_row : Row → spec.Row
model_of_row row = record { number = row.number; at = row.address; bytes = row.bytes.items; text = row.text.items }

abbrev pub model_of_name : NameRow → spec.NameRow
model_of_name row = record { name = row.name; value = Absolute row.value; line = row.line }

abbrev pub model_of_address : TakenLine → ℕ
model_of_address known = (set_or known.origin known.at).number

-- the name of a line, if it has one
abbrev pub named : Option (List ℕ) → ℕ → ℕ → List spec.NameRow
named None value number = []
named (Some name) value number = record { name = name; value = Absolute value; line = number } ∷ []

-- the row of a line that was taken, by its number, its place, its address and its text
pub record IsTaken (count : ℕ) (place : Location) (from : ℕ) (line : List ℕ) (row : Row) : Type 0 where
  pub at : row.at ≡ place
  pub is : model_of_row row ≡ record { number = count; at = from; bytes = []; text = line }

-- one row more
abbrev pub OneMore : ℕ → Location → ℕ → List ℕ → List Row → List Row → Type 0
OneMore number at address text before after =
    (row : Row) × (after ≡ before ++ row ∷ []) × IsTaken number at address text row

-- the row of a line after others, with what it says by later names too
pub record RowOf (texts : List (ℕ × List ℕ)) (later : Names) (before : List Line) (line : Line) (row : Row)
    : Type 0 where
  pub numbered : line.number ≡ length before + 1
  pub at : row.at ≡ place before line
  pub is : model_of_row row ≡ spec.row_of spec.no_bytes texts before line
  pub parsed : parsed later row.at row.text.items ≡ Ok line.statement
  pub room : row.at.number + declared_size line.statement ≤ 65536

-- the rows of lines in their order, after others
abbrev pub Describes : List (ℕ × List ℕ) → Names → List Line → List Line → List Row → Type 0
Describes texts later before [] [] = ⊤
Describes texts later before (line ∷ rest) (row ∷ rows) =
    RowOf texts later before line row × Describes texts later (line ∷ before) rest rows
Describes texts later before [] (row ∷ rows) = ⊥
Describes texts later before (line ∷ rest) [] = ⊥

-- lines in their order, put after others, of which the nearest comes first
abbrev pub onto : List Line → List Line → List Line
onto [] before = before
onto (line ∷ rest) before = onto rest (line ∷ before)

-- the rows of lines, whatever names are still to come
abbrev pub DescribesAll : List (ℕ × List ℕ) → List Line → List Row → Type 0
DescribesAll texts lines rows =
    (rest : List Line) × (onto rest [] ≡ lines)
    × ((later : Names) → Grows (names lines) later → Describes texts later [] rest rows)

-- the lines were taken, and their rows and names are kept
pub record Keeps (texts : List (ℕ × List ℕ)) (lines : List Line) (read : ReadLines) : Type 0 where
  pub after_lines : IsAfter lines read.builder
  pub rows : DescribesAll texts lines read.rows.items
  pub names : map model_of_name read.names.items ≡ spec.name_rows lines

-- no line was taken
pub record KeepsNone (read : ReadLines) : Type 0 where
  pub taken : HasAccepted [] read.builder
  pub going : IsOpen read.builder
  pub count : CanCount read.builder
  pub rows : read.rows.items ≡ []
  pub names : read.names.items ≡ []

-- a line was taken after others, or the first checks refuse it there
abbrev pub ReadsLine : {A : Type 0} → List (ℕ × List ℕ) → List Line → List ℕ → Result A GplError → ReadLines → Type 0
ReadsLine texts lines text (Ok done) read =
    (line : Line) × (check lines (length lines + 1) text ≡ Ok line) × Keeps texts (line ∷ lines) read
ReadsLine texts lines text (Err (At number cause)) read =
    (number ≡ length lines + 1) × (check lines (length lines + 1) text ≡ Err cause) × Keeps texts lines read
ReadsLine texts lines text (Err Memory) read = ⊤

-- the lines of a source were read, or those before the first that the first checks refuse
abbrev pub ReadsLines : {A : Type 0} → List (ℕ × List ℕ) → Result A GplError → ReadLines → Type 0
ReadsLines texts (Ok done) read = (lines : List Line) × (line_layout check texts ≡ Ok lines) × Keeps texts lines read
ReadsLines texts (Err (At number cause)) read =
    (line_layout check texts ≡ Err (record { line = number; cause = cause }))
    × (lines : List Line) × (line_layout check (take (number - 1) texts) ≡ Ok lines) × Keeps texts lines read
ReadsLines texts (Err Memory) read = ⊤
