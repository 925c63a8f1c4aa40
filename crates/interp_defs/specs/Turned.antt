-- A turn is a step of GPL.
use Rattle.std.specs.Prelude.{◌≡◌, ◌≤◌, ℕ, ◌+◌, Result, Ok, Err}
use Rattle.console_defs.specs.Machine.{MachineState}
use Rattle.gpl_step_defs.specs.declared.reason.Reason.{Reason}
use Rattle.gpl_step_defs.specs.State.{GplState}
use Rattle.gpl_step_defs.specs.Step.{step}
use Rattle.gpl_step_defs.specs.Run.{bound}
use Rattle.interp_defs.specs.declared.turn.Turn.{Turn}
use Rattle.interp_defs.specs.declared.turn.Turn.TheVariants.{Stepped, Stopped}
use Rattle.interp_defs.specs.Interpreter.{bound_to_dispatch}
use Rattle.interp_defs.specs.Match.{Matches, IsHalted}
use Rattle.interp_defs.specs.Turns.{IsTurn}

-- What is counted of a turn from a machine on: how many instructions of its step have led to that machine at most, and
-- what a counter shows there and at the end of the turn.
pub record TurnCount : Type 0 where
  pub led_at_most : ℕ
  pub before : ℕ
  pub after : ℕ

-- a turn from the beginning of its step, and one from its dispatch, to which at most `bound_to_dispatch` instructions
-- lead
abbrev pub whole_turn : ℕ → ℕ → TurnCount
whole_turn before after = record { led_at_most = 0; before = before; after = after }

abbrev pub from_dispatch : ℕ → ℕ → TurnCount
from_dispatch before after = record { led_at_most = bound_to_dispatch; before = before; after = after }

-- A turn leads from x to y, and a counter shows its instructions. With the instructions that led to x they are at most
-- `most`.
pub record Reaches (most : ℕ) (x y : MachineState) (counts : TurnCount) : Type 0 where
  pub count : ℕ
  pub within : counts.led_at_most + count ≤ most
  pub counted : counts.after ≡ counts.before + count
  pub turn : IsTurn count x y

-- What a turn makes of a step: the machine matches the next state, or is halted with the state and the reason.
abbrev pub TurnedBy : Result GplState Reason → GplState → MachineState → MachineState → TurnCount → Turn → Type 0
TurnedBy (Ok next) s x y counts turn = (turn ≡ Stepped) × Reaches (bound s) x y counts × Matches next y
TurnedBy (Err reason) s x y counts turn = (turn ≡ Stopped reason) × Reaches (bound s) x y counts × IsHalted s reason y

-- The turn from x to y is the step from s: its answer, its end and its bound are the step's.
abbrev pub Turned : GplState → MachineState → MachineState → TurnCount → Turn → Type 0
Turned s x y counts turn = TurnedBy (step s) s x y counts turn
