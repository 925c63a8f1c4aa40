-- The values of expressions in a GPL source.
use Rattle.std.specs.Prelude.{ℕ, ◌+◌, ◌-◌, ◌%◌, ◌&&◌, Bool, false, nat_le, if◌then◌else◌, List, [], ◌∷◌, Option}
use Rattle.std.specs.Prelude.{Some, None, Result, Ok, Err}
use Rattle.expression_defs.specs.declared.causes.ExprError.{ExprError}
use Rattle.source_defs.specs.Refusals.{◌>>=◌}
use Rattle.source_defs.specs.ByteValues.{number_as_byte, numbers_as_bytes}
use Rattle.expression_defs.specs.Expression.{Value, Absolute, absolute, expression}
use Rattle.gpl_defs.specs.declared.instruction.Space.{Space}
use Rattle.gpl_defs.specs.declared.instruction.Space.TheVariants.{Vdp}
use Rattle.gpl_defs.specs.declared.instruction.GplOperand.{GplOperand}
use Rattle.gpl_source_defs.specs.declared.causes.GplCause.{GplCause}
use Rattle.gpl_source_defs.specs.declared.causes.GplCause.TheVariants.{Expr, BadOperand}
use Rattle.gpl_source_defs.specs.Forms.{Memory}
use Rattle.gpl_defs.specs.declared.scratchpad.TheConstants.{SCRATCHPAD}

-- an expression's refusal is one of the line
abbrev pub as_expr : {A : Type 0} → Result A ExprError → Result A GplCause
as_expr (Ok value) = Ok value
as_expr (Err error) = Err (Expr error)

-- The address that an operand holds. Profile: one of the processor is an offset from >8300, as is the address of a
-- pointer.
abbrev pub held_address : Space → Bool → ℕ → ℕ
held_address Vdp false number = number
held_address _ indirect number = (number + 0x10000 - SCRATCHPAD) % 0x10000

-- Profile: the word that is added lies from >8300 to >83FF.
abbrev pub index_of : ℕ → Result ℕ GplCause
index_of number =
    if nat_le SCRATCHPAD number && nat_le number (SCRATCHPAD + 255) then Ok (number - SCRATCHPAD) else Err BadOperand

abbrev pub checked_byte : ℕ → Result ℕ GplCause
checked_byte = number_as_byte BadOperand

abbrev pub checked_bytes : List ℕ → Result (List ℕ) GplCause
checked_bytes = numbers_as_bytes BadOperand

-- by what each name stands for, and the address that $ stands for
module _ (look : List ℕ → Option Value) (here : ℕ) where
  -- The value of an expression. Profile: every name of a GPL source stands for a number, so other values
  -- do not come.
  abbrev pub number : List ℕ → Result ℕ GplCause
  number text = as_expr (expression look (Absolute here) text >>= absolute)

  -- the refusals of expressions, from the left
  abbrev pub numbers : List (List ℕ) → Result (List ℕ) GplCause
  numbers [] = Ok []
  numbers (text ∷ texts) = do
    first ← number text
    others ← numbers texts
    Ok (first ∷ others)

  abbrev pub index_value : Option (List ℕ) → Result (Option ℕ) GplCause
  index_value None = Ok None
  index_value (Some text) = do
    number ← number text
    index ← index_of number
    Ok (Some index)

  -- An operand in memory. Profile: its address is asked first, then its index, whose range is asked at once.
  abbrev pub operand : Memory → Result GplOperand GplCause
  operand memory = do
    number ← number memory.address
    index ← index_value memory.index
    Ok (record {
      space = memory.space;
      indirect = memory.indirect;
      address = held_address memory.space memory.indirect number;
      index = index;
    })
