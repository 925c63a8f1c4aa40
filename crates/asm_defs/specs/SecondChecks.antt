-- The second checks of a line, and what it places. Profile: the values of its operands are asked from the left, and all
-- of them before their ranges.
use Rattle.std.specs.Prelude.{ℕ, ◌==◌, Bool, false, if◌then◌else◌, List, [], ◌∷◌, Option, Some, Result, Ok, Err}
use Rattle.source_defs.specs.Refusals.{◌>>=◌}
use Rattle.source_defs.specs.ByteValues.{number_as_byte, numbers_as_bytes}
use Rattle.expression_defs.specs.declared.causes.ExprError.{ExprError}
use Rattle.expression_defs.specs.declared.causes.ExprError.TheVariants.{BadRelocation}
use Rattle.expression_defs.specs.Expression.{Value, Absolute, Relocatable, External, absolute, expression, known_value}
use Rattle.expression_defs.specs.Expression.{characters}
use Rattle.object_defs.specs.declared.spot.Spot.{Spot}
use Rattle.object_defs.specs.declared.spot.Spot.TheVariants as spot
use Rattle.instruction_defs.specs.declared.causes.FormError.TheVariants.{BadOperand}
use Rattle.instruction_defs.specs.FirstChecks.{first_checks}
use Rattle.instruction_defs.specs.SecondChecks.{second_checks}
use Rattle.asm_defs.specs.declared.causes.AsmCause.{AsmCause}
use Rattle.asm_defs.specs.declared.causes.AsmCause.TheVariants.{Form, BadDirective}
use Rattle.asm_defs.specs.declared.location.Location.{Location}
use Rattle.asm_defs.specs.declared.location.Part.{Part}
use Rattle.asm_defs.specs.declared.location.Part.TheVariants as part
use Rattle.asm_defs.specs.Statements.{Statement, Instruction, Data, Byte, Text, Def, End, as_form}
use Rattle.asm_defs.specs.FirstChecks.{as_expr}
use Rattle.asm_defs.specs.Locations.{after, value_of}

-- what a line places, or the entry that it gives
pub data Outcome : Type 0 where
  Nothing : Outcome
  Words : List Value → Outcome
  Bytes : List ℕ → Outcome
  Entry : Spot → Outcome

abbrev pub checked_byte : ℕ → Result ℕ AsmCause
checked_byte = number_as_byte (Form BadOperand)

abbrev pub checked_bytes : List ℕ → Result (List ℕ) AsmCause
checked_bytes = numbers_as_bytes (Form BadOperand)

-- absolute place 0
abbrev pub is_first_by : Part → ℕ → Bool
is_first_by part.Absolute number = number == 0
is_first_by _ number = false

-- Profile: no external name is used at absolute place 0, since that place ends the chain of its uses.
abbrev pub used_at : Location → Value → Result Value ExprError
used_at at (External name) = if is_first_by at.part at.number then Err BadRelocation else Ok (External name)
used_at at (Absolute number) = Ok (Absolute number)
used_at at (Relocatable number) = Ok (Relocatable number)

-- Editor/Assembler manual, "Program End": the entry. Profile: it is no external value.
abbrev pub entry_at : Value → Result Spot ExprError
entry_at (Absolute number) = Ok (spot.Absolute number)
entry_at (Relocatable number) = Ok (spot.Relocatable number)
entry_at (External name) = Err BadRelocation

-- Profile: DEF defines no name of REF.
abbrev pub defined_here : Value → Result Value AsmCause
defined_here (External name) = Err BadDirective
defined_here value = Ok value

-- by what each name stands for, and the place of the line
module _ (look : List ℕ → Option Value) (at : Location) where
  abbrev pub value : List ℕ → Result Value ExprError
  value text = expression look (value_of at) text

  -- a value of DATA, whose word is at a place
  abbrev pub word_in : Location → List ℕ → Result Value ExprError
  word_in place text = value text >>= used_at place

  -- the values of DATA, of which the first is at a place
  abbrev pub data_values : Location → List (List ℕ) → Result (List Value) ExprError
  data_values place [] = Ok []
  data_values place (text ∷ texts) = do
    first ← word_in place text
    others ← data_values (after place 2) texts
    Ok (first ∷ others)

  abbrev pub absolute_in : List ℕ → Result ℕ ExprError
  absolute_in text = value text >>= absolute

  abbrev pub byte_values : List (List ℕ) → Result (List ℕ) ExprError
  byte_values [] = Ok []
  byte_values (text ∷ texts) = do
    first ← absolute_in text
    others ← byte_values texts
    Ok (first ∷ others)

  -- the names of DEF stand for something here
  abbrev pub defs_known : List (List ℕ) → Result Outcome AsmCause
  defs_known [] = Ok Nothing
  defs_known (name ∷ names) = do
    value ← as_expr (known_value (look name))
    value ← defined_here value
    defs_known names

  abbrev pub entry_in : List ℕ → Result Spot ExprError
  entry_in text = value text >>= entry_at

  abbrev pub instruction_outcome : List ℕ → List ℕ → Result Outcome AsmCause
  instruction_outcome operation field = do
    words ← as_form (first_checks operation field >>= λ skeleton. second_checks look (value_of at) skeleton)
    Ok (Words words)

  -- the outcome of a line, or why the second checks refuse it
  unfoldable pub outcome : Statement → Result Outcome AsmCause
  outcome (Instruction size operation field) = instruction_outcome operation field
  outcome (Data texts) = as_expr (data_values at texts) >>= λ words. Ok (Words words)
  outcome (Byte texts) = do
    numbers ← as_expr (byte_values texts)
    bytes ← checked_bytes numbers
    Ok (Bytes bytes)
  outcome (Text quoted) = Ok (Bytes (characters quoted))
  outcome (Def names) = defs_known names
  outcome (End (Some text)) = as_expr (entry_in text) >>= λ entry. Ok (Entry entry)
  outcome _ = Ok Nothing
