-- The lines of a run of the machine: a line for each instruction, and the expansion memory after it.
use Rattle.std.specs.Prelude.{ℕ, suc, ◌+◌, List, [], ◌∷◌, ◌++◌, codes, map}
use Rattle.std.specs.List.{range_with_len}
use Rattle.source_defs.specs.Digits.{word_digits, hex_word, right_in}
use Rattle.tms_defs.specs.Accesses.{Answer, Gives}
use Rattle.tms_defs.specs.Operand.{Cpu}
use Rattle.tms_defs.specs.Status.{status_word}
use Rattle.tms_defs.specs.Words.{plus}
use Rattle.instruction_defs.specs.Printed.{printed}
use Rattle.console_defs.specs.Memory.{Memory, word_read}
use Rattle.console_defs.specs.Machine.{MachineState}
use Rattle.console_defs.specs.Runs.{after_steps}
use Rattle.report_defs.specs.Rows.{rows_lines}
use Rattle.machine_change_defs.specs.Seen.{seen_memory}
use Rattle.machine_change_defs.specs.Changes.{MemoryChanges, memory_changes}
use Rattle.machine_change_defs.specs.Text.{changes_text}

-- a word that is read; none of an instruction that is executed is at a port
abbrev pub read_word : Answer ℕ → ℕ
read_word (Gives word) = word
read_word _ = 0

-- the words from an address on, of which an instruction has three at most
abbrev pub code_words : Memory → ℕ → List ℕ
code_words memory at =
    read_word (word_read memory at) ∷ read_word (word_read memory (plus at 2))
    ∷ read_word (word_read memory (plus at 4)) ∷ []

-- Profile: program counter, workspace pointer and status.
unfoldable pub processor_text : Cpu Memory → List ℕ
processor_text cpu =
    hex_word cpu.pc ++ (codes " WP" ++ (word_digits cpu.wp ++ (codes " ST" ++ word_digits (status_word cpu.status))))

-- the text of the instruction at the program counter
unfoldable pub instruction_text : Cpu Memory → List ℕ
instruction_text cpu = (printed (code_words cpu.memory cpu.pc) cpu.pc).text

-- Profile: the line of an instruction begins with its number, the processor before it, and its text.
unfoldable pub step_front : ℕ → MachineState → List ℕ
step_front number x =
    right_in 6 number ++ (codes " " ++ (processor_text x.cpu ++ (codes " " ++ instruction_text x.cpu)))

-- what an instruction changed, by the machines before and after it
abbrev pub step_changes : MachineState → MachineState → MemoryChanges
step_changes x next = memory_changes x.cpu.wp (seen_memory x.cpu.memory) (seen_memory next.cpu.memory)

-- the line of an instruction, by the machines before and after it
abbrev pub step_line : ℕ → MachineState → MachineState → List ℕ
step_line number x next = step_front number x ++ (changes_text (step_changes x next) ++ codes "\n")

-- the line of the instruction after a number of instructions
abbrev pub line_after : MachineState → ℕ → List ℕ
line_after x made = step_line (made + 1) (after_steps made x) (after_steps (suc made) x)

-- the lines of a number of instructions, numbered from 1
unfoldable pub step_lines : MachineState → ℕ → List (List ℕ)
step_lines x count = map (line_after x) (range_with_len 0 count)

-- Profile: the expansion memory is shown in rows, as in a dump: first the low part.
unfoldable pub low_lines : List ℕ → List (List ℕ)
low_lines bytes = codes "low\n" ∷ rows_lines 0x2000 bytes

-- Profile: then the high part, by its addresses from >A000 on.
unfoldable pub high_lines : List ℕ → List (List ℕ)
high_lines bytes = codes "high\n" ∷ rows_lines 0xA000 bytes

abbrev pub expansion_lines : Memory → List (List ℕ)
expansion_lines memory = low_lines memory.low_expansion ++ high_lines memory.high_expansion
