-- A word that was written over, and its being put back.
use Rattle.std.specs.Prelude.{◌≡◌, ℕ, ◌==◌, if◌then◌else◌, Option, Some, None}
use Rattle.tms_defs.specs.Accesses.{Answer, Gives, AtPort, NoInstruction}
use Rattle.console_defs.specs.Memory.{Memory, word_written}
use Rattle.tms_defs.specs.Operand.{Cpu, register_in}
use Rattle.tms_defs.specs.declared.instruction.Place.{Place}
use Rattle.tms_step.specs.declared.cpu.Kept.{Kept}

-- The memory that a write leaves, or the memory before it where it stops.
abbrev pub taken : Answer Memory → Memory → Memory
taken (Gives written) memory = written
taken (AtPort address) memory = memory
taken NoInstruction memory = memory

-- The state with a word put back.
abbrev pub put_back : Option Kept → Cpu Memory → Cpu Memory
put_back None x = x
put_back (Some kept) x = record x { memory = taken (word_written x.memory kept.address kept.word) x.memory }

-- A register of a workspace with a number, and the word that it held.
abbrev pub grown_register : ℕ → ℕ → ℕ → Kept
grown_register number word wp = record { address = register_in wp number; word = word }

-- The register that has grown with an operand at an address, as it was before: what it held is the address.
abbrev pub auto_incremented_by : Place → ℕ → ℕ → Option Kept
auto_incremented_by place address wp =
    if place.mode == 3 then Some (grown_register place.reg address wp) else None

-- The new state is the old one but for the program counter.
pub record SameButPc (old new : Cpu Memory) : Type 0 where
  pub same : record new { pc = old.pc } ≡ old
