-- The second checks of a line, and what it places. Profile: the values of its operands are asked from the left, and all
-- of them before their ranges.
use Rattle.std.specs.Prelude.{ℕ, Bool, true, false, nat_le, if◌then◌else◌, List, [], Option, Some, None, Result}
use Rattle.std.specs.Prelude.{Ok, Err}
use Rattle.std.specs.List.{flat_map}
use Rattle.source_defs.specs.Refusals.{◌>>=◌}
use Rattle.expression_defs.specs.Expression.{Value, characters}
use Rattle.gpl_defs.specs.declared.instruction.GplInstr.{GplInstr}
use Rattle.gpl_defs.specs.declared.instruction.GplInstr.TheVariants as instr
use Rattle.gpl_defs.specs.declared.instruction.GplSource.{GplSource}
use Rattle.gpl_defs.specs.declared.instruction.GplSource.TheVariants as source
use Rattle.gpl_defs.specs.declared.instruction.MoveLength.{MoveLength}
use Rattle.gpl_defs.specs.declared.instruction.MoveLength.TheVariants as counted
use Rattle.gpl_defs.specs.declared.instruction.MoveTarget.TheVariants as target
use Rattle.gpl_defs.specs.declared.instruction.MoveSource.TheVariants as from
use Rattle.gpl_defs.specs.Bytes as gpl
use Rattle.gpl_source_defs.specs.declared.causes.GplCause.{GplCause}
use Rattle.gpl_source_defs.specs.declared.causes.GplCause.TheVariants.{BadOperand}
use Rattle.gpl_source_defs.specs.declared.location.Location.{Location}
use Rattle.gpl_source_defs.specs.Values.{number, numbers, checked_byte, checked_bytes, index_of}
use Rattle.gpl_source_defs.specs.Skeletons.{Source, At, Immediate, Route, Within, ToMemory, ToRegisters}
use Rattle.gpl_source_defs.specs.Skeletons.{Skeleton, Plain}
use Rattle.gpl_source_defs.specs.Skeletons.{Byte as OneByte, Jump, Branch, One, Two, Move}
use Rattle.gpl_source_defs.specs.Statements.{Statement, Instruction, Data, Byte, Text, End}
use Rattle.gpl_source_defs.specs.Locations.{address_of, branch_offset}

-- the bytes that a line places, which may be none, or the entry that it gives
pub data Outcome : Type 0 where
  Bytes : List ℕ → Outcome
  Entry : ℕ → Outcome

-- an immediate source, which is a word or a byte
abbrev pub immediate_of : Bool → ℕ → Result ℕ GplCause
immediate_of true number = Ok number
immediate_of false number = checked_byte number

-- Profile: the number of a register has one byte, without a sign.
abbrev pub register_of : ℕ → Result ℕ GplCause
register_of number = if nat_le number 255 then Ok number else Err BadOperand

-- by what each name stands for, and the place of the line
module _ (look : List ℕ → Option Value) (at : Location) where
  abbrev pub value : List ℕ → Result ℕ GplCause
  value text = number look (address_of at) text

  abbrev pub source_value : Bool → Source → Result GplSource GplCause
  source_value word (At operand) = Ok (source.At operand)
  source_value word (Immediate text) = do
    number ← value text
    immediate ← immediate_of word number
    Ok (source.Immediate immediate)

  abbrev pub length_value : Source → Result MoveLength GplCause
  length_value (At operand) = Ok (counted.At operand)
  length_value (Immediate text) = value text >>= λ number. Ok (counted.Immediate number)

  -- where MOVE copies to and from, after its length
  abbrev pub moved : MoveLength → Route → Result GplInstr GplCause
  moved count (Within to place) = Ok (instr.Move count (target.At to) (from.At place))
  moved count (ToMemory to address None) = do
    start ← value address
    Ok (instr.Move count (target.At to) (from.Grom start))
  moved count (ToMemory to address (Some index)) = do
    start ← value address
    number ← value index
    index ← index_of number
    Ok (instr.Move count (target.At to) (from.GromIndexed start index))
  moved count (ToRegisters first address) = do
    number ← value first
    start ← value address
    register ← register_of number
    Ok (instr.Move count (target.Register register) (from.Grom start))

  -- the instruction that a skeleton is
  abbrev pub instruction : Skeleton → Result GplInstr GplCause
  instruction (Plain op) = Ok (instr.Plain op)
  instruction (OneByte op text) = do
    number ← value text
    byte ← checked_byte number
    Ok (instr.Byte op byte)
  instruction (Jump op text) = value text >>= λ address. Ok (instr.Jump op address)
  instruction (Branch on text) = do
    address ← value text
    offset ← branch_offset at address
    Ok (instr.Branch on offset)
  instruction (One op word operand) = Ok (instr.One op word operand)
  instruction (Two op word destination source) = do
    source ← source_value word source
    Ok (instr.Two op word destination source)
  instruction (Move length route) = do
    count ← length_value length
    moved count route

  -- The outcome of a line, or why the second checks refuse it. Profile: BSS places nothing.
  -- Editor/Assembler manual, "Initialize Word", "Initialize Byte", "Initialize Text", "Program End".
  unfoldable pub outcome : Statement → Result Outcome GplCause
  outcome (Instruction skeleton) = instruction skeleton >>= λ found. Ok (Bytes (gpl.bytes_of found))
  outcome (Data texts) = numbers look (address_of at) texts >>= λ words. Ok (Bytes (flat_map gpl.word_bytes words))
  outcome (Byte texts) = do
    numbers ← numbers look (address_of at) texts
    bytes ← checked_bytes numbers
    Ok (Bytes bytes)
  outcome (Text quoted) = Ok (Bytes (characters quoted))
  outcome (End (Some text)) = value text >>= λ address. Ok (Entry address)
  outcome _ = Ok (Bytes [])
