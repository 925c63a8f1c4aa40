-- GPL programs run by the interpreter: its machines beside the states of the definitions.
use Rattle.std.specs.Prelude.{◌≡◌, ◌<◌, ◌≤◌, ℕ, ◌+◌, List, Option, Some, None}
use Rattle.console_defs.specs.Machine.{MachineState, IsMachine}
use Rattle.gpl_step_defs.specs.declared.reason.Reason.{Reason}
use Rattle.gpl_step_defs.specs.State.{GplState, start}
use Rattle.gpl_step_defs.specs.Run.{run, turns, bound}
use Rattle.interp_defs.specs.Boot.{IsBoot}
use Rattle.interp_defs.specs.Match.{Matches, IsHalted}
use Rattle.interp_defs.specs.Turns.{Boots, IsTurn}

-- A turn of the interpreter from x to y has at most as many instructions as the bound of the step from a state.
-- `before` and `after` are the numbers of instructions that were made up to x and up to y.
pub record TurnsWithin (s : GplState) (before after : ℕ) (x y : MachineState) : Type 0 where
  pub turn : ℕ
  pub is_turn : IsTurn turn x y
  pub within : turn ≤ bound s
  pub adds : after ≡ before + turn

-- The machines of a run of up to `limit` steps from a state: `machine i` is the machine after i turns, and
-- `instructions i` the number of instructions of the processor up to it. It matches the state after i steps, and the
-- turn from there has at most as many instructions as the bound of that step.
pub record AreMachines (s : GplState) (limit : ℕ) (machine : ℕ → MachineState) (instructions : ℕ → ℕ) : Type 0 where
  pub matches : (i : ℕ) → i ≤ (run limit s).done → Matches (run i s).last (machine i)
  pub next : (i : ℕ) → i < turns limit s
      → TurnsWithin (run i s).last (instructions i) (instructions (i + 1)) (machine i) (machine (i + 1))

-- At its end the machine matches the last state, or is halted with it and the reason.
abbrev pub EndsAs : Option Reason → GplState → MachineState → Type 0
EndsAs None last y = Matches last y
EndsAs (Some reason) last y = IsHalted last reason y

-- From x the interpreter makes a run of up to `limit` steps from a state, and y is left: x is the machine before the
-- first turn and y the one after the last, and the turns have `count` instructions in all.
pub record RunsSteps (s : GplState) (limit count : ℕ) (x y : MachineState) : Type 0 where
  pub machine : ℕ → MachineState
  pub instructions : ℕ → ℕ
  pub first : machine 0 ≡ x
  pub none : instructions 0 ≡ 0
  pub machines : AreMachines s limit machine instructions
  pub last : machine (turns limit s) ≡ y
  pub all : instructions (turns limit s) ≡ count
  pub ends : EndsAs (run limit s).stop (run limit s).last y

-- Profile: from its start the interpreter takes at most 400 instructions to its first step.
abbrev pub bound_of_boot : ℕ
bound_of_boot = 400

-- A program with an image and an entry is run for up to `limit` steps, and a machine is left. A machine with the
-- interpreter boots: `machine 0` is at GSTEP for the first time, after at most 400 instructions. `machine i` is the
-- machine after i turns, and `instructions i` the number of instructions that lead to it from boot. The machine after
-- the last turn is left: it matches the last state, or is halted with it and the reason.
pub record RunsProgram (image : List ℕ) (entry limit : ℕ) (left : MachineState) : Type 0 where
  pub boot : MachineState
  pub is_machine : IsMachine boot
  pub is_boot : IsBoot image entry boot
  pub machine : ℕ → MachineState
  pub instructions : ℕ → ℕ
  pub first : Boots (instructions 0) boot (machine 0)
  pub within : instructions 0 ≤ bound_of_boot
  pub machines : AreMachines (start image entry) limit machine instructions
  pub last : machine (turns limit (start image entry)) ≡ left
  pub ends : let r = run limit (start image entry) in
      EndsAs r.stop r.last left

-- The law, which is proved: one machine is left.
abbrev pub OneMachineIsLeft : Type 0
OneMachineIsLeft =
    (image : List ℕ) (entry limit : ℕ) (left other : MachineState)
    → RunsProgram image entry limit left → RunsProgram image entry limit other → left ≡ other
