-- What holds of the reports of `steps`, and of the memory by the changes of their lines.
use Rattle.std.specs.Prelude.{◌≡◌, ℕ, zero, suc, List, length}
use Rattle.console_defs.specs.Memory.{Memory, IsMemory}
use Rattle.console_defs.specs.Machine.{MachineState}
use Rattle.console_defs.specs.Runs.{after_steps}
use Rattle.report_defs.specs.ObjectInput.{linked_input}
use Rattle.report_defs.specs.Report.{Report}
use Rattle.report_defs.specs.Laws.{IsPrefixOf}
use Rattle.machine_change_defs.specs.Seen.{SeenMemory, seen_memory}
use Rattle.machine_change_defs.specs.Changes.{memory_applied}
use Rattle.machine_change_defs.specs.Lines.{step_changes}
use Rattle.machine_change_defs.specs.Reports.{StepsReport, StepsFront}

-- What no instruction changes: how many bytes each part has, the ROM, and the bytes of the GROMs.
pub record Keeps (first m : Memory) : Type 0 where
  pub scratchpad : length m.scratchpad ≡ length first.scratchpad
  pub low_expansion : length m.low_expansion ≡ length first.low_expansion
  pub high_expansion : length m.high_expansion ≡ length first.high_expansion
  pub video : length m.vdp.memory ≡ length first.vdp.memory
  pub registers : length m.vdp.registers ≡ length first.vdp.registers
  pub rom : m.rom ≡ first.rom
  pub image : m.grom.image ≡ first.grom.image

-- the first memory of a run, with the changes of this number of its instructions made, one after the other
abbrev pub memory_by_changes : MachineState → ℕ → SeenMemory
memory_by_changes x zero = seen_memory x.cpu.memory
memory_by_changes x (suc earlier) =
    memory_applied (after_steps earlier x).cpu.wp (step_changes (after_steps earlier x) (after_steps (suc earlier) x))
    (memory_by_changes x earlier)

-- The law, which is proved: this is the memory after these instructions, but for the ROM and the bytes of the GROMs,
-- which are the bytes of the first.
pub record ChangesGiveMemory : Type 0 where
  pub seen : (x : MachineState) → IsMemory x.cpu.memory → (made : ℕ)
      → memory_by_changes x made ≡ seen_memory (after_steps made x).cpu.memory
  pub kept : (x : MachineState) (made : ℕ) → Keeps x.cpu.memory (after_steps made x).cpu.memory

-- the law, which is proved: there is at most one report on each limit and input
abbrev pub OneStepsReport : Type 0
OneStepsReport =
    (limit : ℕ) (input : List ℕ) (first second : Report)
    → StepsReport limit (linked_input input) first → StepsReport limit (linked_input input) second → first ≡ second

-- the law, which is proved: what is written before the end of a report is known begins the report
abbrev pub StepsFrontsBeginReports : Type 0
StepsFrontsBeginReports =
    (limit : ℕ) (input : List ℕ) (front report : Report)
    → StepsFront limit (linked_input input) front → StepsReport limit (linked_input input) report
    → IsPrefixOf front report
