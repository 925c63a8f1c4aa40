-- The processor's state, its registers and the modes of its operands.
use Rattle.std.specs.Prelude.{ℕ, ◌*◌, ◌==◌, if◌then◌else◌}
use Rattle.tms_defs.specs.Words.{plus}
use Rattle.tms_defs.specs.declared.status.Status.{Status}

-- The processor with its memory: program counter, workspace pointer and status register.
-- TMS9900 data manual, "Registers and memory".
pub record Cpu (M : Type 0) : Type 0 where
  pub memory : M
  pub pc : ℕ
  pub wp : ℕ
  pub status : Status

-- The addressing modes. TMS9900 data manual, "Addressing modes".
pub data Mode : Type 0 where
  Register : Mode
  Indirect : Mode
  Symbolic : Mode
  Increment : Mode

-- The mode of the two bits of an instruction word.
abbrev pub mode_of : ℕ → Mode
mode_of bits =
    if bits == 0 then Register else if bits == 1 then Indirect else if bits == 2 then Symbolic else Increment

-- A workspace register is a word of memory. TMS9900 data manual, "Registers and memory".
abbrev pub register_in : ℕ → ℕ → ℕ
register_in wp number = plus wp (2 * number)

-- The address of a register of the processor's workspace.
abbrev pub register : {M : Type 0} → ℕ → Cpu M → ℕ
register number x = register_in x.wp number
