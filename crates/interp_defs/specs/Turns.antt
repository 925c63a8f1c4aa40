-- The turns of the interpreter: from the beginning of a step to the next of its ends.
use Rattle.std.specs.Prelude.{◌≡◌, ◌<◌, ℕ, ◌==◌, IsTrue, IsFalse}
use Rattle.tms_defs.specs.Accesses.{Gives}
use Rattle.console_defs.specs.Machine.{MachineState, steps}
use Rattle.native_interp.specs.declared.addresses.TheConstants.{GSTEP}
use Rattle.interp_defs.specs.Runs.{Runs, is_turn_end}

-- From its start the interpreter reaches its first step: `count` instructions are the least after which the program
-- counter is there.
pub record Boots (count : ℕ) (x y : MachineState) : Type 0 where
  pub leads : steps count x ≡ Gives y
  pub there : y.cpu.pc ≡ GSTEP
  pub first : (before : ℕ) → before < count → (z : MachineState) → steps before x ≡ Gives z
      → IsFalse (z.cpu.pc == GSTEP)

-- From an end it reaches the next one: `count` instructions, one at least, are the least after which it is there.
pub record IsTurn (count : ℕ) (x y : MachineState) : Type 0 where
  pub some : 0 < count
  pub runs : Runs count x y
  pub there : IsTrue (is_turn_end y.cpu.pc)
