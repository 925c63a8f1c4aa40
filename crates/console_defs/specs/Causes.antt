-- Why a step executes no instruction: what it refuses, and where it meets a port.
use Rattle.std.specs.Prelude.{ℕ, Bool, true, Option, Some, None, if◌then◌else◌, IsTrue}
use Rattle.tms_defs.specs.Instructions.{instr_at}
use Rattle.tms_defs.specs.Accesses.{Gives, AtPort, NoInstruction}
use Rattle.tms_defs.specs.Operand.{Cpu}
use Rattle.tms_defs.specs.Step.{is_unsupported}
use Rattle.console_defs.specs.Memory.{Memory, word_read, is_port_address}
use Rattle.tms_defs.specs.declared.step_end.StepEnd.{StepEnd}
use Rattle.tms_defs.specs.declared.step_end.StepEnd.TheVariants.{Done, Refused, Port}

-- A word that no step executes: it belongs to no row of the instruction table, or its operation is not executed.
abbrev pub is_refused : ℕ → Bool
is_refused word = elim (instr_at word) [ Some instr ↦ is_unsupported instr | None ↦ true ]

-- The address of the word that a step refused, where it ended so.
abbrev pub refused_at : StepEnd → Option ℕ
refused_at (Done word) = None
refused_at (Refused address) = Some address
refused_at (Port address) = None

-- What a step refuses: the word at the program counter, where it is read and no step executes it, and nothing else.
abbrev pub refusal : Cpu Memory → Option ℕ
refusal x =
    elim (word_read x.memory x.pc) [
      | Gives word ↦ if is_refused word then Some x.pc else None
      | AtPort address ↦ None
      | NoInstruction ↦ None
    ]

-- Where a step ended at a port, one of the eight ports is at its address.
abbrev pub MeetsPort : StepEnd → Type 0
MeetsPort (Done word) = Unit {0}
MeetsPort (Refused address) = Unit {0}
MeetsPort (Port address) = IsTrue (is_port_address address)
