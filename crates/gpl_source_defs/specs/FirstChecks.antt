-- The first checks of a line, by the lines before it.
--
-- Profile: they are in this order. The line's length and its label; a label that stands for something already; the
-- operation, the number of its operands and their forms; the values that move locations, which are the values of EQU,
-- GROM, AORG and BSS and the addresses and indexes of operands in memory; a location past the end of the GROM; a bad
-- directive.
use Rattle.std.specs.Prelude.{ℕ, ◌%◌, ◌==◌, Bool, true, false, not, nat_lt, List, [], ◌∷◌, Option, Some, None, Result}
use Rattle.std.specs.Prelude.{Ok, Err, is_some}
use Rattle.std.specs.FinMap.{get}
use Rattle.source_defs.specs.Refusals.{◌>>=◌, unless}
use Rattle.source_defs.specs.declared.causes.TextError.{TextError}
use Rattle.expression_defs.specs.Expression.{Value, Absolute}
use Rattle.source_defs.specs.Fields.{fields}
use Rattle.expression_defs.specs.Symbols.{Names, look_up, predefined}
use Rattle.expression_defs.specs.Layout.{set_or, names_of}
use Rattle.gpl_source_defs.specs.declared.causes.GplCause.{GplCause}
use Rattle.gpl_source_defs.specs.declared.causes.GplCause.TheVariants as cause
use Rattle.gpl_source_defs.specs.declared.causes.GplCause.TheVariants.{DuplicateLabel, GromFull, BadDirective}
use Rattle.gpl_source_defs.specs.declared.location.Location.{Location}
use Rattle.gpl_source_defs.specs.Statements.{Statement, Grom, Aorg, Equ, End, statement_at, declared_size}
use Rattle.gpl_source_defs.specs.Locations.{Line, location, address_of, origin_of, passes}
use Rattle.base_defs.specs.declared.size.TheConstants.{GROM_SIZE}

-- a line that has no fields is refused for the cause that it has none
abbrev pub as_text : {A : Type 0} → Result A TextError → Result A GplCause
as_text (Ok value) = Ok value
as_text (Err error) = Err (cause.Text error)

-- the names of the lines before
abbrev pub names : List Line → Names
names before = names_of predefined before

-- a label that stands for something already
abbrev pub is_taken : Names → Option (List ℕ) → Bool
is_taken known None = false
is_taken known (Some name) = is_some (get known name)

-- What a label stands for: the location of its line, or that which the line sets, or the number of EQU.
-- Editor/Assembler manual, "Define Assembly-Time Constant".
abbrev pub label_value : Location → Statement → ℕ
label_value here (Equ number) = number
label_value here statement = address_of (set_or (origin_of here statement) here)

abbrev pub label_entry : Option (List ℕ) → ℕ → List (List ℕ × Value)
label_entry None number = []
label_entry (Some name) number = (name, Absolute number) ∷ []

-- Profile: no line leads past the last address of its GROM.
abbrev pub is_full : Location → Statement → Bool
is_full here statement = passes here (declared_size statement)

-- Profile: EQU has a label, a GROM starts at a multiple of >2000, and AORG sets one of its offsets.
abbrev pub is_bad : Option (List ℕ) → Statement → Bool
is_bad None (Equ number) = true
is_bad label (Grom address) = not (address % GROM_SIZE == 0)
is_bad label (Aorg offset) = not (nat_lt offset GROM_SIZE)
is_bad label _ = false

abbrev pub is_end : Statement → Bool
is_end (End text) = true
is_end _ = false

-- what a line says, and its label
pub record Checked : Type 0 where
  pub label : Option (List ℕ)
  pub statement : Statement

-- what a line says of which the names before and the location are known
abbrev pub parsed : Names → Location → List ℕ → Result Statement GplCause
parsed known here text = do
  found ← as_text (fields text)
  statement_at (look_up known) (address_of here) text found.operation found.operands

-- a line by the first checks
unfoldable pub checked : Names → Location → List ℕ → Result Checked GplCause
checked known here text = do
  found ← as_text (fields text)
  label ← unless (is_taken known found.label) DuplicateLabel found.label
  statement ← statement_at (look_up known) (address_of here) text found.operation found.operands
  statement ← unless (is_full here statement) GromFull statement
  unless (is_bad label statement) BadDirective (record { label = label; statement = statement })

abbrev pub line_of : Location → ℕ → Checked → Line
line_of here number line =
    record {
      number = number;
      origin = origin_of here line.statement;
      gap = 0;
      size = declared_size line.statement;
      names = label_entry line.label (label_value here line.statement);
      statement = line.statement;
      last = is_end line.statement;
    }

-- the outcome of a line after others
abbrev pub check : List Line → ℕ → List ℕ → Result Line GplCause
check before number text = do
  found ← checked (names before) (location before) text
  Ok (line_of (location before) number found)
