-- A session: the machine that runs a GPL program, and whether the program has ended.
use Rattle.std.specs.Prelude.{ℕ, ◌+◌, List, Option, Some, None}
use Rattle.tms_defs.specs.Bytes.{word_in}
use Rattle.console_defs.specs.Machine.{MachineState}
use Rattle.gpl_step_defs.specs.declared.reason.Reason.{Reason}
use Rattle.gpl_step_defs.specs.State.{GplState}
use Rattle.interp_defs.specs.declared.turn.Turn.{Turn}
use Rattle.interp_defs.specs.declared.turn.Turn.TheVariants.{Stepped, Stopped}
use Rattle.interp_defs.specs.Boot.{IsBoot, entry_cell}
use Rattle.interp_defs.specs.Match.{IsMatching, IsHalted, shown_by}

-- the machine, and why the program has ended, if it has
pub record SessionState : Type 0 where
  pub machine : MachineState
  pub ended : Option Reason

-- The machine of a running program matches the state that it shows; the machine of one that has ended is halted.
abbrev pub IsSession : MachineState → Option Reason → Type 0
IsSession x None = IsMatching x
IsSession x (Some reason) = (s : GplState) × IsHalted s reason x

-- A machine on which the interpreter begins, with the image in its GROMs and the entry in its register 0.
abbrev pub image_of : MachineState → List ℕ
image_of x = x.cpu.memory.grom.image

abbrev pub entry_of : MachineState → ℕ
entry_of x = word_in x.cpu.memory.scratchpad entry_cell

abbrev pub IsNew : MachineState → Type 0
IsNew x = IsBoot (image_of x) (entry_of x) x

-- why a program has ended by a turn, if it has
abbrev pub ended_by : Turn → Option Reason
ended_by Stepped = None
ended_by (Stopped reason) = Some reason

-- The address of the next code byte, or of the one that ended the program, which then is in register 1.
abbrev pub address_in : Option Reason → MachineState → ℕ
address_in None x = (shown_by x.cpu.memory).pc
address_in (Some reason) x = word_in x.cpu.memory.scratchpad (entry_cell + 2)

-- the state that a session shows
abbrev pub gpl_state_of : SessionState → GplState
gpl_state_of session = record (shown_by session.machine.cpu.memory) { pc = address_in session.ended session.machine }
