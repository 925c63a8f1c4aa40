-- The machine of the console: the processor over the console's memory, with a count of its instructions, and its steps.
use Rattle.std.specs.Prelude.{◌≡◌, ◌<◌, ℕ, zero, suc, ◌^◌, Bool, ◌&&◌, nat_le, if◌then◌else◌, is_some, Option, Some, None}
use Rattle.base_defs.specs.Counts.{saturating_sum}
use Rattle.tms_defs.specs.Words.{even}
use Rattle.tms_defs.specs.Status.{IsStatus, status_at}
use Rattle.tms_defs.specs.Accesses.{Answer, Gives, AtPort, NoInstruction, ◌>>=◌}
use Rattle.tms_defs.specs.Operand.{Cpu}
use Rattle.tms_defs.specs.Step.{step}
use Rattle.console_defs.specs.Memory.{Memory, IsMemory, console}
use Rattle.tms_defs.specs.declared.step_end.StepEnd.{StepEnd}
use Rattle.tms_defs.specs.declared.step_end.StepEnd.TheVariants.{Done, Refused, Port}

-- The count is no part of the processor: it says how many instructions were executed.
pub record MachineState : Type 0 where
  pub cpu : Cpu Memory
  pub count : ℕ

-- What is true of every machine: its memory, its status register, that the program counter and the workspace pointer
-- are even words, and a count of 64 bits.
pub record IsMachine (x : MachineState) : Type 0 where
  pub memory : IsMemory x.cpu.memory
  pub status : IsStatus x.cpu.status
  pub even_pc : even x.cpu.pc ≡ x.cpu.pc
  pub even_wp : even x.cpu.wp ≡ x.cpu.wp
  pub pc : x.cpu.pc < 65536
  pub wp : x.cpu.wp < 65536
  pub count : x.count < 2 ^ 64

-- Profile: a new machine has status 0 and count 0, and the lowest bit of its workspace pointer and of its program
-- counter is cleared.
abbrev pub new_machine : Memory → ℕ → ℕ → MachineState
new_machine memory wp pc =
    record { cpu = record { memory = memory; pc = even pc; wp = even wp; status = status_at 0 }; count = 0 }

-- Profile: the count after a step. An instruction that was executed raises it by one.
abbrev pub counted : StepEnd → ℕ → ℕ
counted (Done word) count = saturating_sum count 1
counted _ count = count

-- One step of the machine: how the step of its processor ends, and the machine after it.
abbrev pub machine_step : MachineState → StepEnd × MachineState
machine_step x =
    let stepped = step Memory console x.cpu in
    (stepped.0, record { cpu = stepped.1; count = counted stepped.0 x.count })

-- A step as an answer: it gives a machine where it executed an instruction.
abbrev pub given_by : StepEnd × MachineState → Answer MachineState
given_by (Done word, left) = Gives left
given_by (Refused address, left) = NoInstruction
given_by (Port address, left) = AtPort address

abbrev pub done_step : MachineState → Answer MachineState
done_step x = given_by (machine_step x)

-- So many steps in a row that all execute an instruction.
abbrev pub steps : ℕ → MachineState → Answer MachineState
steps zero x = Gives x
steps (suc count) x = done_step x >>= steps count

-- The answer of a step that executed no instruction.
abbrev pub WhereStopped : StepEnd → Type 0 → Type 0
WhereStopped (Done word) parsed = Unit {0}
WhereStopped (Refused address) parsed = parsed
WhereStopped (Port address) parsed = parsed

-- Profile: the registers of a workspace are shown if all sixteen, 32 bytes, lie in the scratchpad from >8300 on or in
-- one of the two parts of expansion memory: the first address of that part.
abbrev pub workspace_base : ℕ → Option ℕ
workspace_base wp =
    if nat_le 0x8300 wp && nat_le wp 0x83E0 then Some 0x8300
    else if nat_le 0x2000 wp && nat_le wp 0x3FE0 then Some 0x2000
    else if nat_le 0xA000 wp && nat_le wp 0xFFE0 then Some 0xA000
    else None

abbrev pub has_workspace : ℕ → Bool
has_workspace wp = is_some (workspace_base wp)
