-- What a step of a GPL program changed, and the states of a run by the changes of its steps.
use Rattle.std.specs.Prelude.{◌≡◌, ℕ, zero, suc, ◌+◌, List}
use Rattle.gpl_step_defs.specs.State.{GplState, IsState}
use Rattle.gpl_step_defs.specs.Run.{run}
use Rattle.report_defs.specs.Trace.{SeenState, seen_state}
use Rattle.change_defs.specs.Changes.{Change, changes, applied}

-- what a step changed of the cells, the video memory and its registers
pub record StepChanges : Type 0 where
  pub cells : List Change
  pub vdp : List Change
  pub registers : List Change

abbrev pub step_changes : SeenState → SeenState → StepChanges
step_changes before after =
    record {
      cells = changes before.cells after.cells;
      vdp = changes before.vdp after.vdp;
      registers = changes before.registers after.registers;
    }

-- a state with the changes of a step made
abbrev pub state_applied : StepChanges → SeenState → SeenState
state_applied made s =
    record {
      cells = applied made.cells s.cells;
      vdp = applied made.vdp s.vdp;
      registers = applied made.registers s.registers;
    }

-- the changes of the next step after this number of steps
abbrev pub changes_after : GplState → ℕ → StepChanges
changes_after s made = step_changes (seen_state (run made s).last) (seen_state (run (made + 1) s).last)

-- the first state of a run, with the changes of this number of its steps made, one step after the other
abbrev pub state_by_changes : GplState → ℕ → SeenState
state_by_changes s zero = seen_state s
state_by_changes s (suc earlier) = state_applied (changes_after s earlier) (state_by_changes s earlier)

-- The law, which is proved: this is the state after these steps, but for the address of the next instruction.
abbrev pub RunChangesLead : Type 0
RunChangesLead = (s : GplState) → IsState s → (made : ℕ) → state_by_changes s made ≡ seen_state (run made s).last
