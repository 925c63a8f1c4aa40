-- What the first checks leave of an instruction: its operands in memory by their addresses, all others by their texts.
use Rattle.std.specs.Prelude.{ℕ, Bool, true, false, List, [], ◌∷◌, length, Option, Some, None, Result}
use Rattle.std.specs.Prelude.{Ok, Err}
use Rattle.source_defs.specs.Refusals.{◌>>=◌}
use Rattle.source_defs.specs.declared.causes.OperandError.{OperandError}
use Rattle.source_defs.specs.declared.causes.OperandError.TheVariants.{Count, Form as WrongForm}
use Rattle.expression_defs.specs.Expression.{Value}
use Rattle.source_defs.specs.OperandLists.{written, one_operand}
use Rattle.source_defs.specs.Operands.{operand_texts}
use Rattle.gpl_defs.specs.declared.instruction.GplOperand.{GplOperand}
use Rattle.gpl_defs.specs.declared.instruction.GplInstr.{GplInstr}
use Rattle.gpl_defs.specs.declared.instruction.GplInstr.TheVariants as instr
use Rattle.gpl_defs.specs.declared.instruction.GplSource.{GplSource}
use Rattle.gpl_defs.specs.declared.instruction.GplSource.TheVariants as source
use Rattle.gpl_defs.specs.declared.instruction.MoveLength.{MoveLength}
use Rattle.gpl_defs.specs.declared.instruction.MoveLength.TheVariants as counted
use Rattle.gpl_defs.specs.declared.instruction.MoveTarget.TheVariants as target
use Rattle.gpl_defs.specs.declared.instruction.MoveSource.TheVariants as from
use Rattle.gpl_defs.specs.declared.instruction.PlainOp.{PlainOp}
use Rattle.gpl_defs.specs.declared.instruction.ByteOp.{ByteOp}
use Rattle.gpl_defs.specs.declared.instruction.GoOp.{GoOp}
use Rattle.gpl_defs.specs.declared.instruction.OneName.{OneName}
use Rattle.gpl_defs.specs.declared.instruction.TwoName.{TwoName}
use Rattle.gpl_defs.specs.Bytes as gpl
use Rattle.gpl_source_defs.specs.declared.causes.GplCause.{GplCause}
use Rattle.gpl_source_defs.specs.declared.causes.GplCause.TheVariants.{OperandCount, BadOperand}
use Rattle.gpl_source_defs.specs.declared.mnemonic.Mnemonic.{Mnemonic}
use Rattle.gpl_source_defs.specs.declared.mnemonic.Mnemonic.TheVariants as named
use Rattle.gpl_source_defs.specs.Forms.{Form, InMemory, InGrom, Register, Alone, form_of}
use Rattle.gpl_source_defs.specs.Forms.{takes_two, takes_move}
use Rattle.gpl_source_defs.specs.Values.{operand}

-- an operand in memory, or the text of an immediate one
pub data Source : Type 0 where
  At : GplOperand → Source
  Immediate : List ℕ → Source

-- Where MOVE copies to and from: memory and memory; memory, and the texts of an address in GROM and of its index; and
-- the texts of a register and of an address in GROM.
pub data Route : Type 0 where
  Within : GplOperand → GplOperand → Route
  ToMemory : GplOperand → List ℕ → Option (List ℕ) → Route
  ToRegisters : List ℕ → List ℕ → Route

pub data Skeleton : Type 0 where
  Plain : PlainOp → Skeleton
  Byte : ByteOp → List ℕ → Skeleton
  Jump : GoOp → List ℕ → Skeleton
  Branch : Bool → List ℕ → Skeleton
  One : OneName → Bool → GplOperand → Skeleton
  Two : TwoName → Bool → GplOperand → Source → Skeleton
  Move : Source → Route → Skeleton

-- a refusal of operands is one of the line
abbrev pub operand_cause : OperandError → GplCause
operand_cause Count = OperandCount
operand_cause WrongForm = BadOperand

abbrev pub as_operand : {A : Type 0} → Result A OperandError → Result A GplCause
as_operand (Ok value) = Ok value
as_operand (Err error) = Err (operand_cause error)

-- the form of an operand that is not empty
abbrev pub written_form : List ℕ → Result Form GplCause
written_form text = as_operand (written text) >>= λ text. Ok (form_of text)

abbrev pub one_form : List (List ℕ) → Result Form GplCause
one_form texts = as_operand (one_operand texts) >>= λ text. Ok (form_of text)

-- the forms of two operands, and of three
abbrev pub two_forms : List (List ℕ) → Result (Form × Form) GplCause
two_forms (first ∷ second ∷ []) = do
  to ← written_form first
  from ← written_form second
  Ok (to, from)
two_forms _ = Err OperandCount

pub record MoveForms : Type 0 where
  pub length : Form
  pub to : Form
  pub from : Form

abbrev pub move_forms : List (List ℕ) → Result MoveForms GplCause
move_forms (first ∷ second ∷ third ∷ []) = do
  length ← written_form first
  to ← written_form second
  from ← written_form third
  Ok (record { length = length; to = to; from = from })
move_forms _ = Err OperandCount

-- the text of an expression alone
abbrev pub text_alone : Form → Result (List ℕ) GplCause
text_alone (Alone text) = Ok text
text_alone _ = Err BadOperand

abbrev pub text_of_one : List (List ℕ) → Result (List ℕ) GplCause
text_of_one texts = do
  form ← one_form texts
  text_alone form

-- an answer where something holds, else the refusal of a form
abbrev pub where_taken : {A : Type 0} → Bool → Result A GplCause → Result A GplCause
where_taken true answer = answer
where_taken false answer = Err BadOperand

-- by what each name stands for, and the address that $ stands for
module _ (look : List ℕ → Option Value) (here : ℕ) where
  -- an operand in memory; no other form is taken
  abbrev pub operand_in : Form → Result GplOperand GplCause
  operand_in (InMemory memory) = operand look here memory
  operand_in _ = Err BadOperand

  abbrev pub source_in : Form → Result Source GplCause
  source_in (Alone text) = Ok (Immediate text)
  source_in form = operand_in form >>= λ operand. Ok (At operand)

  abbrev pub route_in : Form → Form → Result Route GplCause
  route_in (InMemory to) (InMemory from) = do
    target ← operand look here to
    source ← operand look here from
    Ok (Within target source)
  route_in (InMemory to) (InGrom address index) = do
    target ← operand look here to
    Ok (ToMemory target address index)
  route_in (Register number) (InGrom address None) = Ok (ToRegisters number address)
  route_in to from = Err BadOperand

  -- a destination and a source
  abbrev pub two_skeleton : TwoName → Bool → List ℕ → Result Skeleton GplCause
  two_skeleton op word field = do
    forms ← two_forms (operand_texts field)
    where_taken (takes_two op forms.0 forms.1) (do
      destination ← operand_in forms.0
      source ← source_in forms.1
      Ok (Two op word destination source))

  -- a length, a target and a source
  abbrev pub move_skeleton : List ℕ → Result Skeleton GplCause
  move_skeleton field = do
    forms ← move_forms (operand_texts field)
    where_taken (takes_move forms.length forms.to forms.from) (do
      length ← source_in forms.length
      route ← route_in forms.to forms.from
      Ok (Move length route))

  -- The operands of an instruction. GPL Programmer's Guide, the statements: the destination comes first.
  -- Profile: how many there are is asked first, then their forms, then the addresses of those in memory, from the left.
  -- MOVE has its length, its target and its source; an operation without operands ignores the rest of its line.
  abbrev pub skeleton : Mnemonic → List ℕ → Result Skeleton GplCause
  skeleton (named.Plain op) field = Ok (Plain op)
  skeleton (named.Byte op) field = text_of_one (operand_texts field) >>= λ text. Ok (Byte op text)
  skeleton (named.Jump op) field = text_of_one (operand_texts field) >>= λ text. Ok (Jump op text)
  skeleton (named.Branch on) field = text_of_one (operand_texts field) >>= λ text. Ok (Branch on text)
  skeleton (named.One op word) field = do
    form ← one_form (operand_texts field)
    operand ← operand_in form
    Ok (One op word operand)
  skeleton (named.Two op word) field = two_skeleton op word field
  skeleton named.Move field = move_skeleton field

-- an instruction that is as long, with 0 for each value that is a text yet
abbrev pub source_by_zero : Source → GplSource
source_by_zero (At operand) = source.At operand
source_by_zero (Immediate text) = source.Immediate 0

abbrev pub length_by_zero : Source → MoveLength
length_by_zero (At operand) = counted.At operand
length_by_zero (Immediate text) = counted.Immediate 0

abbrev pub move_by_zero : MoveLength → Route → GplInstr
move_by_zero count (Within to place) = instr.Move count (target.At to) (from.At place)
move_by_zero count (ToMemory to address None) = instr.Move count (target.At to) (from.Grom 0)
move_by_zero count (ToMemory to address (Some index)) = instr.Move count (target.At to) (from.GromIndexed 0 0)
move_by_zero count (ToRegisters number address) = instr.Move count (target.Register 0) (from.Grom 0)

abbrev pub instr_by_zero : Skeleton → GplInstr
instr_by_zero (Plain op) = instr.Plain op
instr_by_zero (Byte op text) = instr.Byte op 0
instr_by_zero (Jump op text) = instr.Jump op 0
instr_by_zero (Branch on text) = instr.Branch on 0
instr_by_zero (One op word operand) = instr.One op word operand
instr_by_zero (Two op word destination source) = instr.Two op word destination (source_by_zero source)
instr_by_zero (Move length route) = move_by_zero (length_by_zero length) route

-- How many bytes an instruction takes. A value has as many whatever it is.
abbrev pub size_of : Skeleton → ℕ
size_of skeleton = length (gpl.bytes_of (instr_by_zero skeleton))
