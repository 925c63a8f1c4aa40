-- Lines that copy a file.
--
-- Editor/Assembler manual, "Copy File": COPY takes the lines of a file in its place.
-- Profile: it has no label, and its operand is the name of a file, as written, in a pair of single or double quotes.
use Rattle.std.specs.Prelude.{ℕ, ◌-◌, ◌==◌, Bool, false, ◌&&◌, ◌||◌}
use Rattle.std.specs.Prelude.{nat_le, if◌then◌else◌, List, length, slice_index, codes}
use Rattle.std.specs.Prelude.{Option, Some, None, Result, Ok, Err}
use Rattle.source_defs.specs.declared.text.Span.{Span}
use Rattle.source_defs.specs.declared.causes.TextError.{TextError}
use Rattle.source_defs.specs.Characters.{is_quote}
use Rattle.expression_defs.specs.Expression.{between_quotes}
use Rattle.source_defs.specs.Fields.{Fields, fields}
use Rattle.source_defs.specs.Lines.{part}
use Rattle.source_defs.specs.Names.{is_word}
use Rattle.asm_defs.specs.declared.causes.AsmCause.{AsmCause}
use Rattle.asm_defs.specs.Statements.{Statement, parse_line}
use Rattle.asm_defs.specs.FirstChecks.{is_end}
use Rattle.shelf_defs.specs.Files.{is_file_name}

-- What a line asks for: itself, the lines of a file, or a file in a way that is none.
pub data LineKind : Type 0 where
  Itself : LineKind
  File : List ℕ → LineKind
  Bad : LineKind

-- a double quote
abbrev pub is_double_quote : ℕ → Bool
is_double_quote byte = byte == 0x22

abbrev pub is_either_quote : ℕ → Bool
is_either_quote byte = is_quote byte || is_double_quote byte

-- a quote is at both ends of a text, the same at each
abbrev pub stands_in_quotes : List ℕ → Bool
stands_in_quotes text =
    nat_le 2 (length text) && is_either_quote (slice_index text 0)
    && (slice_index text 0 == slice_index text (length text - 1))

-- the name of a file that is in quotes
abbrev pub quoted_name : List ℕ → Option (List ℕ)
quoted_name operand =
    if stands_in_quotes operand && is_file_name (between_quotes operand) then Some (between_quotes operand) else None

-- what a line with the operation COPY asks for, by its label and the name in its operand field
abbrev pub asked_for : Option (List ℕ) → Option (List ℕ) → LineKind
asked_for None (Some name) = File name
asked_for None None = Bad
asked_for (Some label) name = Bad

-- what a line with these fields asks for, by its operation
abbrev pub line_kind : List ℕ → Fields → Option Span → LineKind
line_kind line found None = Itself
line_kind line found (Some operation) =
    if is_word (part line operation) (codes "COPY")
    then asked_for found.label (quoted_name (part line found.operands))
    else Itself

-- a line without fields stands for itself: the first checks refuse it
abbrev pub asked_in : List ℕ → Result Fields TextError → LineKind
asked_in line (Ok found) = line_kind line found found.operation
asked_in line (Err error) = Itself

-- what a line asks for
unfoldable pub asked : List ℕ → LineKind
asked line = asked_in line (fields line)

-- a line ends its source where it says END
abbrev pub parses_as_end : Result Statement AsmCause → Bool
parses_as_end (Ok statement) = is_end statement
parses_as_end (Err cause) = false

unfoldable pub ends_source : List ℕ → Bool
ends_source line = parses_as_end (parse_line line)
