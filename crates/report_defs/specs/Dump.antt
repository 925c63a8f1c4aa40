-- What a machine looks like: its scratchpad, its ports, its count and its registers. A dump is a list of lines.
use Rattle.std.specs.Prelude.{ℕ, ◌*◌, if◌then◌else◌, List, [], ◌∷◌, ◌++◌, codes}
use Rattle.std.specs.List.{flat_map, range_with_len}
use Rattle.std.specs.Fmt.{decimal}
use Rattle.tms_defs.specs.Words.{plus}
use Rattle.tms_defs.specs.Accesses.{Answer, Gives}
use Rattle.console_defs.specs.Vdp.{VdpState}
use Rattle.console_defs.specs.Grom.{GromState}
use Rattle.console_defs.specs.Memory.{Memory, word_read}
use Rattle.tms_defs.specs.Operand.{Cpu}
use Rattle.tms_defs.specs.Status.{status_word}
use Rattle.console_defs.specs.Machine.{MachineState, has_workspace}
use Rattle.source_defs.specs.Digits.{hex_word}
use Rattle.report_defs.specs.Rows.{spaced_bytes, rows_lines}

-- Profile: a dump begins with the scratchpad, in rows from >8300.
unfoldable pub pad_lines : List ℕ → List (List ℕ)
pad_lines scratchpad = codes "pad\n" ∷ rows_lines 0x8300 scratchpad

-- Profile: then the video memory, in rows from >0000, and the eight registers of the video processor.
unfoldable pub vdp_registers_line : List ℕ → List ℕ
vdp_registers_line registers = codes "regs" ++ (spaced_bytes registers ++ codes "\n")

unfoldable pub vdp_lines : VdpState → List (List ℕ)
vdp_lines vdp = codes "vdp\n" ∷ (rows_lines 0 vdp.memory ++ vdp_registers_line vdp.registers ∷ [])

-- Profile: then the counter of the GROMs.
unfoldable pub grom_line : GromState → List ℕ
grom_line grom = codes "grom " ++ (hex_word grom.counter ++ codes "\n")

-- a word after a label
unfoldable pub labelled_word : List ℕ → ℕ → List ℕ
labelled_word label word = label ++ hex_word word

-- Profile: then the count of executed instructions, program counter, workspace pointer and status.
unfoldable pub count_line : MachineState → List ℕ
count_line machine =
    codes "count " ++ (decimal machine.count
    ++ (labelled_word (codes " PC ") machine.cpu.pc
    ++ (labelled_word (codes " WP ") machine.cpu.wp
    ++ (labelled_word (codes " ST ") (status_word machine.cpu.status) ++ codes "\n"))))

abbrev pub shown_word : Answer ℕ → List ℕ
shown_word (Gives word) = 0x20 ∷ hex_word word
shown_word _ = []

-- the workspace register with a number, after a blank
abbrev pub register_text : Cpu Memory → ℕ → List ℕ
register_text cpu number = shown_word (word_read cpu.memory (plus cpu.wp (2 * number)))

-- eight registers from a number on
unfoldable pub eight_registers : Cpu Memory → ℕ → List ℕ
eight_registers cpu first = flat_map (register_text cpu) (range_with_len first 8)

-- eight registers, after the name of the first
unfoldable pub registers_line : List ℕ → Cpu Memory → ℕ → List ℕ
registers_line name cpu first = name ++ (eight_registers cpu first ++ codes "\n")

-- Profile: then the sixteen registers, or that there are none, where the workspace does not lie wholly in memory that
-- can be shown.
unfoldable pub workspace_lines : Cpu Memory → List (List ℕ)
workspace_lines cpu =
    if has_workspace cpu.wp then registers_line (codes "R0") cpu 0 ∷ registers_line (codes "R8") cpu 8 ∷ []
    else codes "R none\n" ∷ []

abbrev pub dump_lines : MachineState → List (List ℕ)
dump_lines machine =
    pad_lines machine.cpu.memory.scratchpad
    ++ (vdp_lines machine.cpu.memory.vdp
    ++ (grom_line machine.cpu.memory.grom ∷ count_line machine ∷ workspace_lines machine.cpu))
