-- The second checks of an instruction line, and its words. Profile: the values of its operands are asked from the left,
-- and all of them before their ranges.
use Rattle.std.specs.Prelude.{ℕ, ℤ, pos, neg_ℤ, ◌+◌, ◌-◌, ◌/◌, ◌%◌, ◌==◌, Bool, ◌&&◌, ◌||◌, nat_le, nat_lt}
use Rattle.std.specs.Prelude.{if◌then◌else◌, List, [], ◌∷◌, ◌++◌, Option, Some, None, Result, Ok, Err}
use Rattle.std.specs.Int.{w16, cast_signed}
use Rattle.source_defs.specs.Refusals.{◌>>=◌}
use Rattle.expression_defs.specs.declared.causes.ExprError.{ExprError}
use Rattle.expression_defs.specs.declared.causes.ExprError.TheVariants.{BadRelocation}
use Rattle.expression_defs.specs.Expression.{Value, Absolute, Relocatable, External, absolute, expression}
use Rattle.tms_defs.specs.Instructions.{word_of}
use Rattle.tms_defs.specs.declared.instruction.Place.{Place}
use Rattle.tms_defs.specs.declared.instruction.Operation.{Operation}
use Rattle.tms_defs.specs.declared.instruction.Operation.TheVariants.{Two, Reg, Shift, One, Jump, Imm, Bare}
use Rattle.tms_defs.specs.declared.instruction.Instr.{Instr}
use Rattle.tms_defs.specs.declared.instruction.Instr.TheVariants as instr
use Rattle.instruction_defs.specs.declared.causes.FormError.{FormError}
use Rattle.instruction_defs.specs.declared.causes.FormError.TheVariants.{BadOperand, JumpTooFar, Expr}
use Rattle.instruction_defs.specs.declared.operand_kind.OperandKind.{OperandKind}
use Rattle.instruction_defs.specs.declared.operand_kind.OperandKind.TheVariants.{General, Register, Count, Immediate}
use Rattle.instruction_defs.specs.declared.operand_kind.OperandKind.TheVariants.{Target, Displacement}
use Rattle.instruction_defs.specs.Operands.{kinds_of}
use Rattle.instruction_defs.specs.Forms.{Form, Plain, Indirect, Increment, Symbolic, Indexed}
use Rattle.instruction_defs.specs.FirstChecks.{Skeleton, Word, Instruction}

-- An operand with its values, not yet held against their ranges: R, *R, *R+, @e and @e(R); a register or a count; the
-- displacement of a bit; the target of a jump; and a word that follows.
pub data Operand : Type 0 where
  InRegister : ℕ → Operand
  ByRegister : ℕ → Operand
  AutoIncrement : ℕ → Operand
  AtAddress : Value → Operand
  AtIndexed : Value → ℕ → Operand
  Number : ℕ → Operand
  Bit : ℕ → Operand
  To : ℕ → Operand
  Following : Value → Operand

-- an expression's refusal is one of the line
abbrev pub as_form_error : {A : Type 0} → Result A ExprError → Result A FormError
as_form_error (Ok value) = Ok value
as_form_error (Err cause) = Err (Expr cause)

-- Profile: a jump's target is of the kind of the jump's place.
abbrev pub target_in : Value → Value → Result ℕ ExprError
target_in (Absolute here) (Absolute target) = Ok target
target_in (Relocatable here) (Relocatable target) = Ok target
target_in here value = Err BadRelocation

-- the text of an expression alone
abbrev pub text_in : Form → List ℕ
text_in (Plain text) = text
text_in (Indirect text) = text
text_in (Increment text) = text
text_in (Symbolic text) = text
text_in (Indexed text index) = text

-- by what each name stands for, and the place of the line
module _ (look : List ℕ → Option Value) (here : Value) where
  abbrev pub value_of : List ℕ → Result Value FormError
  value_of text = as_form_error (expression look here text)

  abbrev pub number_of : List ℕ → Result ℕ FormError
  number_of text = do
    value ← value_of text
    as_form_error (absolute value)

  -- The values of an operand in any mode, from the left. Editor/Assembler manual, "Addressing Modes".
  abbrev pub placed : Form → Result Operand FormError
  placed (Plain text) = number_of text >>= λ register. Ok (InRegister register)
  placed (Indirect text) = number_of text >>= λ register. Ok (ByRegister register)
  placed (Increment text) = number_of text >>= λ register. Ok (AutoIncrement register)
  placed (Symbolic text) = value_of text >>= λ address. Ok (AtAddress address)
  placed (Indexed text index) = do
    address ← value_of text
    register ← number_of index
    Ok (AtIndexed address register)

  abbrev pub valued : OperandKind → Form → Result Operand FormError
  valued General form = placed form
  valued Register form = number_of (text_in form) >>= λ number. Ok (Number number)
  valued Count form = number_of (text_in form) >>= λ number. Ok (Number number)
  valued Displacement form = number_of (text_in form) >>= λ number. Ok (Bit number)
  valued Immediate form = value_of (text_in form) >>= λ value. Ok (Following value)
  valued Target form = do
    value ← value_of (text_in form)
    target ← as_form_error (target_in here value)
    Ok (To target)

  abbrev pub all_valued : List OperandKind → List Form → Result (List Operand) FormError
  all_valued (kind ∷ kinds) (form ∷ forms) = do
    operand ← valued kind form
    operands ← all_valued kinds forms
    Ok (operand ∷ operands)
  all_valued _ _ = Ok []

-- a value's number, without its kind
abbrev pub place_number : Value → ℕ
place_number (Absolute number) = number
place_number (Relocatable number) = number
place_number (External name) = 0

-- whole words forward or backward, at most 127 and 128
abbrev pub forward : ℕ → Option ℤ
forward bytes = if (bytes % 2 == 0) && nat_le bytes 254 then Some (pos (bytes / 2)) else None

abbrev pub backward : ℕ → Option ℤ
backward bytes = if (bytes % 2 == 0) && nat_le bytes 256 then Some (neg_ℤ (pos (bytes / 2))) else None

-- The displacement of a jump: words from the next instruction to the target. TMS9900 data manual, "Jump instructions".
-- Profile: the distance does not wrap at 16 bits.
abbrev pub displacement_to : ℕ → ℕ → Option ℤ
displacement_to next target = if nat_le next target then forward (target - next) else backward (next - target)

-- A register or a count has four bits. TMS9900 data manual, "Registers and memory", and the formats of "Instructions".
abbrev pub below_sixteen : ℕ → Result ℕ FormError
below_sixteen number = if nat_lt number 16 then Ok number else Err BadOperand

-- Register 0 is no index. TMS9900 data manual, "Indexed addressing".
abbrev pub is_index : ℕ → Bool
is_index register = nat_lt 0 register && nat_lt register 16

-- The displacement of a bit is a signed byte. TMS9900 data manual, "CRU single-bit instructions".
abbrev pub is_displacement : ℕ → Bool
is_displacement number = nat_lt number 128 || nat_le 0xFF80 number

-- An operand whose values are in their ranges: a place, with the word that follows, where one does; a register or a
-- count; a displacement; or a word that follows.
pub data EncodedOperand : Type 0 where
  Located : Place → Option Value → EncodedOperand
  Counted : ℕ → EncodedOperand
  Displaced : ℤ → EncodedOperand
  Followed : Value → EncodedOperand

abbrev pub by_register : ℕ → ℕ → Result EncodedOperand FormError
by_register mode number = do
  register ← below_sixteen number
  Ok (Located (record { mode = mode; reg = register }) None)

abbrev pub displaced : Option ℤ → Result EncodedOperand FormError
displaced (Some disp) = Ok (Displaced disp)
displaced None = Err JumpTooFar

abbrev pub indexed : Value → ℕ → Result EncodedOperand FormError
indexed value number =
    if is_index number then Ok (Located (record { mode = 2; reg = number }) (Some value)) else Err BadOperand

abbrev pub bit : ℕ → Result EncodedOperand FormError
bit number = if is_displacement number then Ok (Displaced (cast_signed w16 number)) else Err BadOperand

-- An operand of the line at a place, held against its range.
abbrev pub ranged : Value → Operand → Result EncodedOperand FormError
ranged here (InRegister number) = by_register 0 number
ranged here (ByRegister number) = by_register 1 number
ranged here (AutoIncrement number) = by_register 3 number
ranged here (AtAddress value) = Ok (Located (record { mode = 2; reg = 0 }) (Some value))
ranged here (AtIndexed value number) = indexed value number
ranged here (Number number) = below_sixteen number >>= λ count. Ok (Counted count)
ranged here (Bit number) = bit number
ranged here (To target) = displaced (displacement_to (place_number here + 2) target)
ranged here (Following value) = Ok (Followed value)

abbrev pub all_ranged : Value → List Operand → Result (List EncodedOperand) FormError
all_ranged here [] = Ok []
all_ranged here (operand ∷ operands) = do
  ready ← ranged here operand
  readies ← all_ranged here operands
  Ok (ready ∷ readies)

-- the parts of an instruction, by its operands in their order
abbrev pub place_in : EncodedOperand → Place
place_in (Located place following) = place
place_in _ = record { mode = 0; reg = 0 }

abbrev pub count_in : EncodedOperand → ℕ
count_in (Counted number) = number
count_in _ = 0

abbrev pub displacement_in : EncodedOperand → ℤ
displacement_in (Displaced disp) = disp
displacement_in _ = pos 0

abbrev pub first_of : List EncodedOperand → EncodedOperand
first_of [] = Counted 0
first_of (ready ∷ readies) = ready

abbrev pub second_of : List EncodedOperand → EncodedOperand
second_of [] = Counted 0
second_of (ready ∷ readies) = first_of readies

-- Editor/Assembler manual, "Assembly Language Instructions": a source is before its destination, and a register
-- before a count.
abbrev pub instruction_of : Operation → List EncodedOperand → Instr
instruction_of (Two op byte) readies = instr.Two op byte (place_in (second_of readies)) (place_in (first_of readies))
instruction_of (Reg op) readies = instr.Reg op (count_in (second_of readies)) (place_in (first_of readies))
instruction_of (Shift op) readies = instr.Shift op (count_in (second_of readies)) (count_in (first_of readies))
instruction_of (One op) readies = instr.One op (place_in (first_of readies))
instruction_of (Jump op) readies = instr.Jump op (displacement_in (first_of readies))
instruction_of (Imm op) readies = instr.Imm op (count_in (first_of readies))
instruction_of (Bare op) readies = instr.Bare op

-- the words that follow, in the order of the operands
abbrev pub following_in : EncodedOperand → List Value
following_in (Located place (Some value)) = value ∷ []
following_in (Followed value) = value ∷ []
following_in _ = []

abbrev pub all_following : List EncodedOperand → List Value
all_following [] = []
all_following (ready ∷ readies) = following_in ready ++ all_following readies

-- The words of a line at a place, each absolute, relocatable or an external name; or why the second checks refuse it.
unfoldable pub second_checks : (List ℕ → Option Value) → Value → Skeleton → Result (List Value) FormError
second_checks look here (Word word) = Ok (Absolute word ∷ [])
second_checks look here (Instruction operation forms) = do
  operands ← all_valued look here (kinds_of operation) forms
  readies ← all_ranged here operands
  Ok (Absolute (word_of (instruction_of operation readies)) ∷ all_following readies)
