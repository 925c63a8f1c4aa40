-- The first checks of a line, by the lines before it.
--
-- Profile: they are in this order. The line's length and its label; a label that stands for something already; the
-- operation, the number of its operands and their forms; a name of REF that stands for something already; the values
-- that move locations; a location past the end of its part, and too many names; a bad directive.
use Rattle.std.specs.Prelude.{ℕ, ◌+◌, ◌*◌, Bool, true, false, not, ◌&&◌, ◌||◌, nat_le, List, [], ◌∷◌, ◌++◌}
use Rattle.std.specs.Prelude.{length, map, is_some, Option, Some, None, Result, Ok, Err}
use Rattle.std.specs.List.{list_any}
use Rattle.std.specs.FinMap.{get}
use Rattle.source_defs.specs.Refusals.{◌>>=◌, unless}
use Rattle.source_defs.specs.QuotedTexts.{is_quoted}
use Rattle.expression_defs.specs.declared.causes.ExprError.{ExprError}
use Rattle.expression_defs.specs.declared.causes.ExprError.TheVariants.{BadRelocation}
use Rattle.expression_defs.specs.Expression.{Value, Absolute, Relocatable, External, absolute, expression, characters}
use Rattle.source_defs.specs.Fields.{fields}
use Rattle.expression_defs.specs.Symbols.{Names, look_up, predefined}
use Rattle.expression_defs.specs.Layout.{names_of, set_or}
use Rattle.object_defs.specs.Modules.{most_names, is_module_name}
use Rattle.object_defs.specs.Digits.{padded}
use Rattle.asm_defs.specs.declared.causes.AsmCause.{AsmCause}
use Rattle.asm_defs.specs.declared.causes.AsmCause.TheVariants.{Expr, DuplicateLabel, BadDirective, Overflow}
use Rattle.asm_defs.specs.declared.location.Location.{Location}
use Rattle.asm_defs.specs.declared.location.Part.TheVariants as part
use Rattle.asm_defs.specs.Statements.{Statement, Instruction, Aorg, Rorg, Dorg, Bss, Bes, Even, Equ, Data}
use Rattle.asm_defs.specs.Statements.{Byte, Text, Def, Ref, Idt, Titl, End, statement_in, as_text}
use Rattle.asm_defs.specs.Locations.{Line, location, reached, after, to_even, value_of, is_in_part}
use Rattle.source_defs.specs.Names.{same_text}

-- an expression's refusal is one of the line
abbrev pub as_expr : {A : Type 0} → Result A ExprError → Result A AsmCause
as_expr (Ok value) = Ok value
as_expr (Err error) = Err (Expr error)

-- the names of the lines before
abbrev pub names : List Line → Names
names before = names_of predefined before

abbrev pub is_known : Names → List ℕ → Bool
is_known known name = is_some (get known name)

abbrev pub any_known : Names → List (List ℕ) → Bool
any_known known names = list_any (is_known known) names

abbrev pub is_among : List ℕ → List (List ℕ) → Bool
is_among name others = list_any (λ other. same_text other name) others

-- one of some names is among earlier ones, or twice among them
abbrev pub repeats : List (List ℕ) → List (List ℕ) → Bool
repeats earlier [] = false
repeats earlier (name ∷ names) = is_among name earlier || is_among name names || repeats earlier names

-- the label, where the line has one
abbrev pub label_in : Option (List ℕ) → List (List ℕ)
label_in None = []
label_in (Some name) = name ∷ []

-- the names that a line says others define, and those that it defines for others
abbrev pub refs_in : Statement → List (List ℕ)
refs_in (Ref names) = names
refs_in _ = []

abbrev pub defs_in : Statement → List (List ℕ)
defs_in (Def names) = names
defs_in _ = []

-- the items of the lines, in their order
abbrev pub refs : List Line → List (List ℕ)
refs [] = []
refs (line ∷ before) = refs before ++ refs_in line.statement

abbrev pub defs : List Line → List (List ℕ)
defs [] = []
defs (line ∷ before) = defs before ++ defs_in line.statement

-- Profile: a name of REF stands for something already if it is one of R0 to R15, if a line before or its own line
-- defines it, or if REF names it twice.
abbrev pub is_taken : Names → Option (List ℕ) → List (List ℕ) → Bool
is_taken known label names = any_known known names || repeats (label_in label) names

-- what a line does to the location: the location that it sets, the bytes that it leaves free, its size, and what its
-- label stands for
pub record LocationChange : Type 0 where
  pub origin : Option Location
  pub gap : ℕ
  pub size : ℕ
  pub label : Value

abbrev pub stays_at : Location → ℕ → LocationChange
stays_at here size = record { origin = None; gap = 0; size = size; label = value_of here }

-- Editor/Assembler manual, "Word Boundary": an instruction and DATA are at an even place, and so is their label.
abbrev pub stays_even : Location → ℕ → LocationChange
stays_even here size =
    record { origin = None; gap = to_even here; size = size; label = value_of (after here (to_even here)) }

-- Editor/Assembler manual, "Absolute Origin", "Relocatable Origin", "Dummy Origin": the label is the new location.
abbrev pub set_to : Location → LocationChange
set_to location = record { origin = Some location; gap = 0; size = 0; label = value_of location }

-- Editor/Assembler manual, "Block Ending with Symbol": the label is the location after the block.
abbrev pub ends_block : Location → ℕ → LocationChange
ends_block here size = record { origin = None; gap = 0; size = size; label = value_of (after here size) }

abbrev pub equals : Value → LocationChange
equals value = record { origin = None; gap = 0; size = 0; label = value }

-- Profile: RORG takes the number of an absolute or a relocatable value.
abbrev pub non_external_number : Value → Result ℕ ExprError
non_external_number (Absolute number) = Ok number
non_external_number (Relocatable number) = Ok number
non_external_number (External name) = Err BadRelocation

-- Profile: EQU takes no external value.
abbrev pub non_external : Value → Result Value ExprError
non_external (External name) = Err BadRelocation
non_external value = Ok value

-- by the names of the lines before and the line's location
module _ (known : Names) (here : Location) where
  abbrev pub value : List ℕ → Result Value ExprError
  value text = expression (look_up known) (value_of here) text

  abbrev pub absolute_in : List ℕ → Result ℕ ExprError
  absolute_in text = value text >>= absolute

  -- What a line does to the location, by the highest relocatable location reached so far. Editor/Assembler manual,
  -- "Assembler Directives".
  abbrev pub move : ℕ → Statement → Result LocationChange ExprError
  move reached (Instruction size operation field) = Ok (stays_even here size)
  move reached (Aorg text) =
      absolute_in text >>= λ number. Ok (set_to (record { part = part.Absolute; number = number }))
  move reached (Rorg None) = Ok (set_to (record { part = part.Relocatable; number = reached }))
  move reached (Rorg (Some text)) =
      value text >>= non_external_number
      >>= λ number. Ok (set_to (record { part = part.Relocatable; number = number }))
  move reached (Dorg text) = absolute_in text >>= λ number. Ok (set_to (record { part = part.Dummy; number = number }))
  move reached (Bss text) = absolute_in text >>= λ size. Ok (stays_at here size)
  move reached (Bes text) = absolute_in text >>= λ size. Ok (ends_block here size)
  move reached Even = Ok (stays_even here 0)
  move reached (Equ text) = value text >>= non_external >>= λ value. Ok (equals value)
  move reached (Data texts) = Ok (stays_even here (2 * length texts))
  move reached (Byte texts) = Ok (stays_at here (length texts))
  move reached (Text quoted) = Ok (stays_at here (length (characters quoted)))
  move reached _ = Ok (stays_at here 0)

abbrev pub is_end : Statement → Bool
is_end (End text) = true
is_end _ = false

-- The names that a line defines: its label, and the names of REF. Editor/Assembler manual, "Symbols", "External
-- Reference".
abbrev pub label_entry : Option (List ℕ) → Value → List (List ℕ × Value)
label_entry None value = []
label_entry (Some name) value = (name, value) ∷ []

abbrev pub external_entries : List (List ℕ) → List (List ℕ × Value)
external_entries names = map (λ name. (name, External name)) names

-- what is known of the lines before a line
pub record EarlierLines : Type 0 where
  pub names : Names
  pub location : Location
  pub reached : ℕ
  pub defs : List (List ℕ)
  pub refs : List (List ℕ)

abbrev pub known_of : List Line → EarlierLines
known_of before =
    record {
      names = names before;
      location = location before;
      reached = reached before;
      defs = defs before;
      refs = refs before;
    }

abbrev pub location_after : Location → LocationChange → Location
location_after here move = after (set_or move.origin here) (move.gap + move.size)

abbrev pub has_too_many : List (List ℕ) → List (List ℕ) → Bool
has_too_many before names = not (nat_le (length before + length names) most_names)

-- Profile: the 257th name of DEF, or the 257th name of REF, is too much.
abbrev pub lists_too_many : EarlierLines → Statement → Bool
lists_too_many before (Def names) = has_too_many before.defs names
lists_too_many before (Ref names) = has_too_many before.refs names
lists_too_many before _ = false

-- Profile: a location past the end of its part is refused.
abbrev pub is_too_far : EarlierLines → Statement → LocationChange → Bool
is_too_far before statement move =
    not (is_in_part (location_after before.location move)) || lists_too_many before statement

-- the module's name that a quoted text gives, filled up with blanks
abbrev pub title_in : List ℕ → List ℕ
title_in text = padded 8 (characters text)

-- Profile: a module's name is at most eight characters from >20 to >7E.
abbrev pub is_title : List ℕ → Bool
is_title text = is_module_name (title_in text)

-- Profile: a directive that cannot stand as it is: EQU without a label, IDT or TITL without a quoted text, a text that
-- is no module's name, and a name that DEF has already.
abbrev pub is_bad : EarlierLines → Option (List ℕ) → Statement → Bool
is_bad before None (Equ text) = true
is_bad before label (Idt text) = not (is_quoted text && is_title text)
is_bad before label (Titl text) = not (is_quoted text)
is_bad before label (Def names) = repeats before.defs names
is_bad before label _ = false

-- a label with what its line says
pub record ParsedLine : Type 0 where
  pub label : Option (List ℕ)
  pub statement : Statement

-- what the first checks leave of a line
pub record Checked : Type 0 where
  pub label : Option (List ℕ)
  pub statement : Statement
  pub move : LocationChange

-- by what is known of the lines before
module _ (before : EarlierLines) where
  -- what a line says, whose names are new
  unfoldable pub parsed : List ℕ → Result ParsedLine AsmCause
  parsed text = do
    found ← as_text (fields text)
    label ← unless (any_known before.names (label_in found.label)) DuplicateLabel found.label
    statement ← statement_in text found
    unless (is_taken before.names label (refs_in statement)) DuplicateLabel
        (record { label = label; statement = statement })

  -- where it leads
  unfoldable pub moved : ParsedLine → Result Checked AsmCause
  moved line = do
    move ← as_expr (move before.names before.location before.reached line.statement)
    move ← unless (is_too_far before line.statement move) Overflow move
    unless (is_bad before line.label line.statement) BadDirective
        (record { label = line.label; statement = line.statement; move = move })

  -- a line by the first checks
  abbrev pub checked : List ℕ → Result Checked AsmCause
  checked text = parsed text >>= moved

abbrev pub line_of : ℕ → Checked → Line
line_of number checked =
    record {
      number = number;
      origin = checked.move.origin;
      gap = checked.move.gap;
      size = checked.move.size;
      names = label_entry checked.label checked.move.label ++ external_entries (refs_in checked.statement);
      statement = checked.statement;
      last = is_end checked.statement;
    }

-- the outcome of a line after others
abbrev pub check : List Line → ℕ → List ℕ → Result Line AsmCause
check before number text = checked (known_of before) text >>= λ found. Ok (line_of number found)
