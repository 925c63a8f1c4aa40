-- What `run` and `trace` report in the end: a GPL program that the interpreter runs.
use Rattle.std.specs.Prelude.{ℕ, ◌+◌, List, [], ◌∷◌, ◌++◌, codes, drop, slice_index, Option, Some, None}
use Rattle.console_defs.specs.Machine.{MachineState}
use Rattle.source_defs.specs.Digits.{hex_word, byte_digits}
use Rattle.gpl_step_defs.specs.declared.cells.TheConstants.{VISIBLE_CELLS, STATUS, VALUE_STACK, RETURN_STACK}
use Rattle.gpl_step_defs.specs.declared.reason.Reason.{Reason}
use Rattle.gpl_step_defs.specs.declared.reason.Reason.TheVariants.{Exit}
use Rattle.gpl_step_defs.specs.Reasons.{number_of}
use Rattle.gpl_step_defs.specs.State.{GplState}
use Rattle.report_defs.specs.declared.status.Status.{Status}
use Rattle.report_defs.specs.declared.status.Status.TheVariants as status
use Rattle.report_defs.specs.Dump.{dump_lines}

-- Profile: where a program ended there is a line that says why and where. EXIT is reported by its name, the other
-- reasons by their numbers, which are one digit.
abbrev pub stop_text : Reason → List ℕ
stop_text Exit = codes "exit at "
stop_text reason = codes "stop " ++ (0x30 + number_of reason) ∷ codes " at "

unfoldable pub stop_line : Reason → ℕ → List ℕ
stop_line reason address = stop_text reason ++ (hex_word address ++ codes "\n")

abbrev pub stop_lines : Option Reason → ℕ → List (List ℕ)
stop_lines None address = []
stop_lines (Some reason) address = stop_line reason address ∷ []

-- a cell in two digits
abbrev pub cell_text : List ℕ → ℕ → List ℕ
cell_text cells cell = byte_digits (slice_index cells cell)

-- Profile: a state is shown by the address of the next instruction, the status and the pointers of the two stacks.
unfoldable pub state_text : GplState → List ℕ
state_text s =
    hex_word s.pc
    ++ (codes " S"
    ++ (cell_text s.cells STATUS
    ++ (codes " D" ++ (cell_text s.cells VALUE_STACK ++ (codes " R" ++ cell_text s.cells RETURN_STACK)))))

-- Profile: the line of the last state.
unfoldable pub state_line : GplState → List ℕ
state_line s = codes "gpl " ++ (state_text s ++ codes "\n")

-- A machine with what GPL programs see of a state in it. The cells after the visible ones are the machine's.
abbrev pub showing : GplState → MachineState → MachineState
showing s x =
    record x {
      cpu = record x.cpu {
        memory = record x.cpu.memory {
          scratchpad = s.cells ++ drop VISIBLE_CELLS x.cpu.memory.scratchpad;
          vdp = record x.cpu.memory.vdp { memory = s.vdp; registers = s.registers };
        };
      };
    }

-- the line of a state, and the dump of a machine with the state in it
abbrev pub state_lines : GplState → MachineState → List (List ℕ)
state_lines last left = state_line last ∷ dump_lines (showing last left)

-- Profile: the report of a program is why it ended, if it did; its last state; and a dump that shows the state in the
-- machine.
abbrev pub program_lines : Option Reason → GplState → MachineState → List (List ℕ)
program_lines stop last left = stop_lines stop last.pc ++ state_lines last left

-- Profile: a program that is stopped has a status of its own; one that leaves by EXIT is done.
abbrev pub program_status : Option Reason → Status
program_status None = status.Done
program_status (Some Exit) = status.Done
program_status (Some reason) = status.Stopped
