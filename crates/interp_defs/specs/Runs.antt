-- Runs of the machine that pass none of the interpreter's three ends.
use Rattle.std.specs.Prelude.{◌≡◌, ◌<◌, ℕ, Bool, ◌==◌, ◌||◌, IsFalse}
use Rattle.tms_defs.specs.Accesses.{Gives}
use Rattle.console_defs.specs.Machine.{MachineState, steps}
use Rattle.native_interp.specs.declared.addresses.TheConstants.{GSTEP, GSTOP, GEXIT}

-- where a step begins, where a program stops, and where it leaves
abbrev pub is_turn_end : ℕ → Bool
is_turn_end pc = pc == GSTEP || (pc == GSTOP || pc == GEXIT)

-- So many executed instructions lead from x to y, and the program counter is at none of the three ends
-- after any of them but the last.
pub record Runs (count : ℕ) (x y : MachineState) : Type 0 where
  pub leads : steps count x ≡ Gives y
  pub clear : (before : ℕ) → 0 < before → before < count → (z : MachineState) → steps before x ≡ Gives z
      → IsFalse (is_turn_end z.cpu.pc)
