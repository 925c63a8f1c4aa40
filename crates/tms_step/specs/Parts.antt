-- Parts of the machine step that are functions of the code.
use Rattle.std.specs.Prelude.{ℕ, Bool, true, false}
use Rattle.tms_defs.specs.Accesses.{Answer, ◌>>=◌}
use Rattle.console_defs.specs.Memory.{Memory, console}
use Rattle.tms_defs.specs.Flags.{Width, Byte}
use Rattle.tms_defs.specs.Operand.{Cpu, mode_of}
use Rattle.tms_defs.specs.Step.{operand, value_at, two}
use Rattle.tms_defs.specs.declared.instruction.TwoOp.{TwoOp}
use Rattle.tms_defs.specs.declared.instruction.TwoOp.TheVariants.{SZC, S, C, A, MOV, SOC}
use Rattle.tms_defs.specs.declared.instruction.OneOp.{OneOp}
use Rattle.tms_defs.specs.declared.instruction.OneOp.TheVariants.{INC, INCT, DEC, DECT}
use Rattle.tms_defs.specs.declared.instruction.ImmOp.{ImmOp}
use Rattle.tms_defs.specs.declared.instruction.ImmOp.TheVariants.{AI, ANDI, ORI, CI}
use Rattle.tms_defs.specs.declared.instruction.Place.{Place}

-- What follows once the source of two operands is derived.
abbrev pub from_source : TwoOp → Width → ℕ → Place → Cpu Memory → Answer (Cpu Memory)
from_source op width source dst x = do
  (value, read) ← value_at Memory console width source x
  (destination, left) ← operand Memory console (mode_of dst.mode) width dst.reg read
  two Memory console op width value destination left

-- An operation on a byte that is read at an address and the destination at another.
abbrev pub two_from_port : TwoOp → ℕ → ℕ → Cpu Memory → Answer (Cpu Memory)
two_from_port op source address x = do
  (value, read) ← value_at Memory console Byte source x
  two Memory console op Byte value address read

-- What follows once the source of two operands is derived, where the destination is derived before the source is read.
abbrev pub from_port : TwoOp → ℕ → Place → Cpu Memory → Answer (Cpu Memory)
from_port op source dst x = do
  (destination, derived) ← operand Memory console (mode_of dst.mode) Byte dst.reg x
  two_from_port op source destination derived

-- The operations that add, subtract or compare, and those that set or clear bits; MOV is none of either.
abbrev pub is_arithmetic : TwoOp → Bool
is_arithmetic SZC = false
is_arithmetic S = true
is_arithmetic C = true
is_arithmetic A = true
is_arithmetic MOV = false
is_arithmetic SOC = false

abbrev pub is_bitwise : TwoOp → Bool
is_bitwise SZC = true
is_bitwise S = false
is_bitwise C = false
is_bitwise A = false
is_bitwise MOV = false
is_bitwise SOC = true

-- The operations that increase or decrease a word, by one or by two.
abbrev pub is_increment : OneOp → Bool
is_increment INC = true
is_increment INCT = true
is_increment DEC = true
is_increment DECT = true
is_increment _ = false

-- The operations on a register and the word that follows, both of which are read.
abbrev pub reads_both : ImmOp → Bool
reads_both AI = true
reads_both ANDI = true
reads_both ORI = true
reads_both CI = true
reads_both _ = false
