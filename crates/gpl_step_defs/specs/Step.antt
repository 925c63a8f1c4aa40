-- The step of GPL.
--
-- GPL Programmer's Guide, the statements.
-- Profile: all checks come before all changes, and all operands are read before anything is stored. A stop leaves the
-- state as it was, so it is a reason and nothing else.
use Rattle.std.specs.Prelude.{ℕ, ◌*◌, ◌==◌, Bool, true, false, List, ◌++◌, replicate, drop, Some, None, Result, Ok, Err}
use Rattle.tms_defs.specs.Status.{is_set}
use Rattle.tms_defs.specs.Flags.{Width, Byte, Word, size_of}
use Rattle.tms_defs.specs.Logic.{complement_of}
use Rattle.base_defs.specs.Addresses.{in_grom_of}
use Rattle.source_defs.specs.Refusals.{◌>>=◌}
use Rattle.gpl_defs.specs.declared.instruction.PlainOp.{PlainOp}
use Rattle.gpl_defs.specs.declared.instruction.PlainOp.TheVariants.{RTN, RTNC, H, GT, EXIT, CARRY, OVF}
use Rattle.gpl_defs.specs.declared.instruction.ByteOp.{ByteOp}
use Rattle.gpl_defs.specs.declared.instruction.ByteOp.TheVariants.{RAND, BACK, ALL}
use Rattle.gpl_defs.specs.declared.instruction.GoOp.{GoOp}
use Rattle.gpl_defs.specs.declared.instruction.GoOp.TheVariants.{B, CALL}
use Rattle.gpl_defs.specs.declared.instruction.OneName.{OneName}
use Rattle.gpl_defs.specs.declared.instruction.OneName.TheVariants.{
  ABS,
  NEG,
  INV,
  CLR,
  CASE,
  CZ,
  INC,
  DEC,
  INCT,
  DECT,
  FETCH,
  PUSH,
}
use Rattle.gpl_defs.specs.declared.instruction.TwoName.{TwoName}
use Rattle.gpl_defs.specs.declared.instruction.TwoName.TheVariants.{MUL, DIV}
use Rattle.gpl_defs.specs.declared.instruction.GplSource.{GplSource}
use Rattle.gpl_defs.specs.declared.instruction.GplSource.TheVariants as source
use Rattle.gpl_defs.specs.declared.instruction.GplInstr.{GplInstr}
use Rattle.gpl_defs.specs.declared.instruction.GplInstr.TheVariants.{Plain, Byte as OfByte, Jump, Branch, One, Two}
use Rattle.gpl_defs.specs.declared.instruction.GplInstr.TheVariants.{Move}
use Rattle.gpl_defs.specs.declared.instruction.GplRead.{GplRead}
use Rattle.gpl_defs.specs.declared.instruction.GplRead.TheVariants.{Instr, Refused}
use Rattle.gpl_defs.specs.Reading.{reading}
use Rattle.gpl_step_defs.specs.declared.status_bits.TheConstants.{HIGHER_BIT, GREATER_BIT, CARRY_BIT, OVERFLOW_BIT}
use Rattle.gpl_step_defs.specs.declared.reason.Reason.{Reason}
use Rattle.gpl_step_defs.specs.declared.reason.Reason.TheVariants.{Exit, Opcode}
use Rattle.gpl_step_defs.specs.State.{GplState}
use Rattle.gpl_step_defs.specs.Place.{Place, place_of, value_at}
use Rattle.gpl_step_defs.specs.Changes.{Changes, unchanged, with_pc, with_register, with_value, with_condition}
use Rattle.gpl_step_defs.specs.Changes.{status_of}
use Rattle.gpl_step_defs.specs.Changes.{finished}
use Rattle.gpl_step_defs.specs.Arithmetic.{Source, added, subtracted, negated, made_absolute, two}
use Rattle.gpl_step_defs.specs.Flow.{branched, selected, called, returned, pushed, fetched, drawn}
use Rattle.gpl_step_defs.specs.Copy.{moved}
use Rattle.gpl_step_defs.specs.declared.limits.TheConstants.{SCREEN_BYTES, BORDER_REGISTER}
use Rattle.gpl_defs.specs.declared.instruction.GplOperand.{GplOperand}

abbrev pub word_or_byte : Bool → Width
word_or_byte true = Word
word_or_byte false = Byte

-- COND is set where a bit of the status is, or cleared. GPL Programmer's Guide, H, GT, CARRY and OVF.
-- Profile: no other bit changes.
abbrev pub with_tested : ℕ → Changes → Changes
with_tested bit c = with_condition (is_set (status_of c.state) bit) c

-- The operations without operand. Profile: RTN clears COND, RTNC keeps it, and EXIT ends the program.
abbrev pub plain : PlainOp → Changes → Result Changes Reason
plain RTN c = returned c >>= λ c. Ok (with_condition false c)
plain RTNC c = returned c
plain EXIT c = Err Exit
plain H c = Ok (with_tested HIGHER_BIT c)
plain GT c = Ok (with_tested GREATER_BIT c)
plain CARRY c = Ok (with_tested CARRY_BIT c)
plain OVF c = Ok (with_tested OVERFLOW_BIT c)

-- ALL fills the screen. GPL Programmer's Guide, ALL. Profile: the screen is the first bytes of video memory, whatever
-- the video registers say.
abbrev pub filled : ℕ → List ℕ → List ℕ
filled byte vdp = replicate SCREEN_BYTES byte ++ drop SCREEN_BYTES vdp

-- The operations on a byte. BACK loads the register of the border colour. GPL Programmer's Guide, BACK.
abbrev pub with_immediate : ByteOp → ℕ → Changes → Changes
with_immediate RAND limit c = drawn limit c
with_immediate BACK byte c = with_register BORDER_REGISTER byte c
with_immediate ALL byte c = record c { state = record c.state { vdp = filled byte c.state.vdp } }

abbrev pub jump : GoOp → ℕ → Changes → Result Changes Reason
jump B to c = Ok (with_pc to c)
jump CALL to c = called to c

-- The operations on one operand: its place and its value.
-- GPL Programmer's Guide, the statements with one operand.
-- Profile: which status bits they set; CZ sets COND or clears it, and changes no other bit.
abbrev pub one : OneName → Width → Place → ℕ → Changes → Result Changes Reason
one ABS width at x c = Ok (made_absolute width at x c)
one NEG width at x c = Ok (negated width at x c)
one INV width at x c = Ok (with_value width at (complement_of width x) c)
one CLR width at x c = Ok (with_value width at 0 c)
one CASE width at x c = Ok (selected x c)
one CZ width at x c = Ok (with_condition (x == 0) c)
one INC width at x c = Ok (added width at x 1 c)
one DEC width at x c = Ok (subtracted width at x 1 c)
one INCT width at x c = Ok (added width at x 2 c)
one DECT width at x c = Ok (subtracted width at x 2 c)
one FETCH width at x c = fetched at c
one PUSH width at x c = pushed x c

-- how many bytes the destination of an operation takes: a product and a dividend have twice the width
abbrev pub destination_size : TwoName → Width → ℕ
destination_size MUL width = 2 * size_of width
destination_size DIV width = 2 * size_of width
destination_size op width = size_of width

abbrev pub source_of : GplState → Width → GplSource → Result Source Reason
source_of s width (source.At operand) =
    place_of s (size_of width) operand >>= λ p. Ok (record { number = value_at s width p; place = Some p })
source_of s width (source.Immediate value) = Ok (record { number = value; place = None })

-- One operand: its place, and what is there.
abbrev pub one_operand : OneName → Width → GplOperand → Changes → Result Changes Reason
one_operand op width operand c = do
  p ← place_of c.state (size_of width) operand
  one op width p (value_at c.state width p) c

-- Two operands: the destination's place, the source, and what is at that place.
abbrev pub two_operands : TwoName → Width → GplOperand → GplSource → Changes → Result Changes Reason
two_operands op width dst src c = do
  p ← place_of c.state (destination_size op width) dst
  source ← source_of c.state width src
  Ok (two op width p (value_at c.state width p) source c)

-- What an instruction changes, where the one after it has its address already.
abbrev pub changes_of : GplInstr → ℕ → Changes → Result Changes Reason
changes_of (Plain op) at c = plain op c
changes_of (OfByte op value) at c = Ok (with_immediate op value c)
changes_of (Jump op to) at c = jump op to c
changes_of (Branch on offset) at c = Ok (branched on (in_grom_of at offset) c)
changes_of (One op word operand) at c = one_operand op (word_or_byte word) operand c
changes_of (Two op word dst src) at c = two_operands op (word_or_byte word) dst src c
changes_of (Move length target source) at c = moved length target source c

-- the state after an instruction that is at the state's pc, or why it stops
unfoldable pub after : GplInstr → ℕ → GplState → Result GplState Reason
after instr next s = changes_of instr s.pc (unchanged (record s { pc = next })) >>= λ c. Ok (finished c)

abbrev pub executed : GplRead → GplState → Result GplState Reason
executed (Refused code) s = Err Opcode
executed (Instr instr next) s = after instr next s

-- The step: the next state, or the reason of the stop.
abbrev pub step : GplState → Result GplState Reason
step s = executed (reading s.image s.pc) s
