-- What the lines of `steps` give.
use Rattle.std.specs.Prelude.{◌≡◌, ℕ, suc, ◌+◌, ◌^◌, ◌<◌, List, [], ◌∷◌, ◌++◌, codes, map, Ok}
use Rattle.std.specs.List.{range_with_len}
use Rattle.console_defs.specs.Machine.{MachineState, IsMachine}
use Rattle.console_defs.specs.Runs.{after_steps}
use Rattle.link_defs.specs.LinkedMemory.{LinkedMemory}
use Rattle.report_defs.specs.Exec.{IsStart}
use Rattle.report_defs.specs.ObjectInput.{linked_input}
use Rattle.machine_change_defs.specs.Seen.{SeenMemory, seen_memory}
use Rattle.machine_change_defs.specs.Changes.{memory_applied}
use Rattle.machine_change_defs.specs.Text.{changes_text}
use Rattle.machine_change_defs.specs.Lines.{instruction_text, step_front, step_changes, line_after, step_lines}
use Rattle.debug_report_defs.specs.LineParts.{front_part, changes_part}
use Rattle.debug_report_defs.specs.LineFronts.{MachineFront, machine_front}
use Rattle.debug_report_defs.specs.MachineReader.{machine_changes}

-- A memory with the changes of lines made, one line after the other. The front of a line has the workspace pointer that
-- its changes of registers go by.
abbrev pub memory_of_lines : List (List ℕ) → SeenMemory → SeenMemory
memory_of_lines [] m = m
memory_of_lines (line ∷ lines) m =
    memory_of_lines lines (memory_applied (machine_front line).wp (machine_changes line) m)

-- the front of the line of the next instruction after this number of instructions
abbrev pub front_after : MachineState → ℕ → MachineFront
front_after x made =
    let cpu = (after_steps made x).cpu in
    record {
      number = made + 1;
      pc = cpu.pc;
      wp = cpu.wp;
      status = cpu.status;
      instruction = instruction_text cpu;
    }

-- The law, which is proved, of the lines of a run from any machine. The end of a line's front is found, and from the
-- line alone are read: the number of the instruction, the program counter, the workspace pointer and the status before
-- it, its text, and its changes. The changes of the lines of the first instructions, made in the first memory one line
-- after the other, give the memory after these instructions, but for the ROM and the bytes of the GROMs, which no
-- instruction changes. The program counter, the workspace pointer and the status after the last line are in no line.
-- The machine in which a run of the linked memory of an input begins is such a machine.
pub record MachineLinesGiveStates : Type 0 where
  pub lines : (x : MachineState) (count : ℕ) → step_lines x count ≡ map (line_after x) (range_with_len 0 count)
  pub parts : (x : MachineState) → IsMachine x → (made : ℕ)
      → (front_part (line_after x made) ≡ step_front (made + 1) (after_steps made x))
      × (changes_part (line_after x made)
      ≡ changes_text (step_changes (after_steps made x) (after_steps (suc made) x)) ++ codes "\n")
  pub fronts : (x : MachineState) → IsMachine x → (made : ℕ) → made + 1 < 2 ^ 64
      → machine_front (line_after x made) ≡ front_after x made
  pub changes : (x : MachineState) → IsMachine x → (made : ℕ)
      → machine_changes (line_after x made) ≡ step_changes (after_steps made x) (after_steps (suc made) x)
  pub memory : (x : MachineState) → IsMachine x → (count : ℕ)
      → memory_of_lines (step_lines x count) (seen_memory x.cpu.memory) ≡ seen_memory (after_steps count x).cpu.memory
  pub starts : (input : List ℕ) (linked : LinkedMemory) (x : MachineState) → linked_input input ≡ Ok linked
      → IsStart linked x → IsMachine x
