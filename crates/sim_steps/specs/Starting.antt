-- From boot to the first step, and the machine on which the interpreter begins.
use Rattle.std.specs.Prelude.{ℕ, ◌+◌, ◌≡◌, ◌≤◌, List, slice_set}
use Rattle.sim_rows.specs.Prelude.{Boots, GBOOT, GplState, IsBoot, IsMachine, MachineState, Matches, PortsAreIdle}
use Rattle.sim_rows.specs.Prelude.{RETURN_STACK, IsAt, start, state_of, VALUE_STACK, View, view}

-- The state at the first step of a program with its entry in register 0: its stacks are
-- empty, and all else is as it was.
abbrev pub booted : View → GplState
booted w =
    record (state_of w) { cells = slice_set (slice_set w.cells VALUE_STACK 0x9F) RETURN_STACK 0x7E; pc = w.r.r0 }

-- From boot the machine reaches the first step, which it matches. It takes at most a given number of
-- instructions, which the counter shows.
pub record StartsProgram (s : GplState) (most : ℕ) (x y : MachineState) (before after : ℕ) : Type 0 where
  pub count : ℕ
  pub within : count ≤ most
  pub counted : after ≡ before + count
  pub boots : Boots count x y
  pub matches : Matches s y

-- The law, which is proved: a new machine with the interpreter, an image and an entry is at boot with its ports
-- idle, and its first step is from the state in which the program starts.
abbrev pub MachinesStart : Type 0
MachinesStart =
    (image : List ℕ) (entry : ℕ) (x : MachineState) → IsMachine x → IsBoot image entry x
    → IsAt x GBOOT × PortsAreIdle x.cpu.memory × (booted (view x) ≡ start image entry)
