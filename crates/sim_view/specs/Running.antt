-- Steps up to the end of a piece.
use Rattle.std.specs.Prelude.{◌≡◌, ◌+◌, ℕ, zero, suc, ◌/◌, Bool, true, ◌==◌, ◌||◌, List, if◌then◌else◌}
use Rattle.std.specs.List.{list_any}
use Rattle.console_defs.specs.Machine.{MachineState, IsMachine, machine_step}
use Rattle.tms_defs.specs.declared.step_end.StepEnd.{StepEnd}
use Rattle.tms_defs.specs.declared.step_end.StepEnd.TheVariants.{Done, Refused, Port}
use Rattle.tms_step.specs.Turns.{executed_by}
use Rattle.interp_defs.specs.Runs.{is_turn_end}
use Rattle.sim_view.specs.declared.run.TheConstants.{PIECE}

-- B at the address in a register, which has this code. TMS9900 data manual, "Branch".
abbrev pub is_branch_by_register : ℕ → Bool
is_branch_by_register word = word / 16 == 0x045

-- A piece ends with a branch by a register, at one of the interpreter's three ends, and at the ends of its own.
abbrev pub ends_piece : List ℕ → ℕ → ℕ → Bool
ends_piece ends word pc = is_branch_by_register word || (is_turn_end pc || list_any (λ end. pc == end) ends)

-- The step is the last of a piece: it ends the piece, or executes no instruction.
abbrev pub is_last : List ℕ → StepEnd → ℕ → Bool
is_last ends (Done word) pc = ends_piece ends word pc
is_last ends (Refused address) pc = true
is_last ends (Port address) pc = true

-- What a run is: how many instructions it executed, and the machine after them.
pub record Ran : Type 0 where
  pub count : ℕ
  pub left : MachineState

abbrev pub one_more : Ran → Ran
one_more r = record r { count = suc r.count }

-- At most a given number of steps, up to the last of a piece.
unfoldable pub ran : List ℕ → ℕ → MachineState → Ran
ran ends zero x = record { count = 0; left = x }
ran ends (suc most) x =
    let stepped = machine_step x in
    if is_last ends stepped.0 stepped.1.cpu.pc
    then record { count = executed_by stepped.0; left = stepped.1 }
    else one_more (ran ends most stepped.1)

-- A piece with these ends was run from x to y, and the counter shows its instructions.
pub record RunsPiece (ends : List ℕ) (x y : MachineState) (before after : ℕ) : Type 0 where
  pub left : y ≡ (ran ends PIECE x).left
  pub count : after ≡ before + (ran ends PIECE x).count
  pub bounds : IsMachine y
