-- What the rows of the table say of the interpreter's source.
use Rattle.std.specs.Prelude.{◌≡◌, ℕ, ◌-◌, ◌/◌, IsTrue, List, [], ◌∷◌, ◌++◌, length, slice_index_or}
use Rattle.std.specs.Prelude.{take, drop, map, Ok}
use Rattle.expression_defs.specs.Expression.{Value, Absolute}
use Rattle.expression_defs.specs.Symbols.{registers}
use Rattle.source_defs.specs.Lines.{numbered}
use Rattle.expression_defs.specs.Layout.{line_layout}
use Rattle.asm_defs.specs.declared.location.Location.{Location}
use Rattle.asm_defs.specs.Locations.{Line}
use Rattle.asm_defs.specs.FirstChecks.{check}
use Rattle.asm_defs.specs.SecondChecks.{Outcome, Nothing, Words, Bytes, Entry}
use Rattle.line_laws.specs.KnownLines.{are_new}
use Rattle.line_laws.specs.Laws.{IsAssembledAt}
use Rattle.native_interp.specs.Source.{lines}
use Rattle.native_interp.specs.Words.{words}
use Rattle.native_interp.specs.Words.{origin}
use Rattle.line_table.specs.declared.line_row.LineRow.{LineRow}
use Rattle.line_table.specs.declared.line_row.NameRow.{NameRow}
use Rattle.line_table.specs.Table.{defined, row_words}

-- a line of this outcome places these words
abbrev pub Places : Outcome → List ℕ → Type 0
Places Nothing placed = placed ≡ []
Places (Words values) placed = values ≡ map Absolute placed
Places (Bytes bytes) placed = ⊥
Places (Entry entry) placed = placed ≡ []

-- The row of a line of the source, by its number from 0. The line is at the row's place by the layout of all lines,
-- and places the row's words, which are the words that are shipped from there on.
pub record IsRow (index : ℕ) (row : LineRow) : Type 0 where
  pub at : Location
  pub come : Outcome
  pub place_is : IsAssembledAt lines index at come
  pub place : row.place ≡ at.number
  pub count : length (row_words row) ≡ row.count
  pub placed : Places come (row_words row)
  pub shipped : row_words row ≡ take row.count (drop ((row.place - origin) / 2) words)

-- the names that lines define, in the order of the lines, of which the last comes first
abbrev pub names_of_lines : List Line → List (List ℕ × Value)
names_of_lines [] = []
names_of_lines (line ∷ before) = names_of_lines before ++ line.names

-- The names are those that the lines of the source define, each with what it stands for. None stands twice, and none
-- is a register's.
pub record NamesAreDefined : Type 0 where
  pub all : List Line
  pub earlier_layout : line_layout check (numbered 1 lines) ≡ Ok all
  pub names : names_of_lines all ≡ defined
  pub new : IsTrue (are_new registers defined)

-- what a row of a name says
abbrev pub named : NameRow → List ℕ × Value
named row = (row.name, Absolute row.value)

-- no name
abbrev pub no_name : List ℕ × Value
no_name = ([], Absolute 0)

-- the row of a name, by its number from 0
pub record IsNameRow (index : ℕ) (row : NameRow) : Type 0 where
  pub is : named row ≡ slice_index_or defined index no_name
  pub are_defined : NamesAreDefined
