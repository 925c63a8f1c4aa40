-- Laws of counts.
use Rattle.std.specs.Prelude.{◌≡◌, ℕ, ◌+◌, ◌*◌, ◌<◌, ◌≤◌, List, None}
use Rattle.base_defs.specs.Counts.{saturating_sum}
use Rattle.console_defs.specs.Machine.{MachineState}
use Rattle.gpl_defs.specs.Image.{Image}
use Rattle.gpl_step_defs.specs.State.{start}
use Rattle.gpl_step_defs.specs.Run.{run, turns, bound}
use Rattle.interp_defs.specs.Programs.{RunsProgram, bound_of_boot}
use Rattle.report_defs.specs.Report.{Report}
use Rattle.gpl_counts.specs.Counts.{ReportsCounts, most_shown_steps}

-- The law, which is proved, of the machine after i steps of a run, whose count the line of step i shows:
--
-- - `shorter`, `machines`: it is the machine that is left of a run of i steps, whichever run it is.
-- - `counts`, `exact`: its count is the number of instructions that lead to it from boot, if that is below 2^64; it is,
--   if the run has at most 10,000,000 steps.
-- - `within`: a step adds no more than its bound.
-- - `last`, `stop`: after the last step the count is the count of the machine that is left, which the dump shows; if
--   the program stopped, it is at most 400 less.
pub record CountsAreInstructions : Type 0 where
  pub shorter : {image : List ℕ} {entry limit : ℕ} {left : MachineState} (p : RunsProgram image entry limit left)
      (i : ℕ) → i ≤ (run limit (start image entry)).done → RunsProgram image entry i (p.machine i)
  pub machines : {image : List ℕ} {entry limit : ℕ} {left : MachineState} (p : RunsProgram image entry limit left)
      (i : ℕ) → i ≤ (run limit (start image entry)).done
      → (other : MachineState) → RunsProgram image entry i other → p.machine i ≡ other
  pub counts : {image : List ℕ} {entry limit : ℕ} {left : MachineState} (p : RunsProgram image entry limit left)
      (i : ℕ) → i ≤ turns limit (start image entry) → (p.machine i).count ≡ saturating_sum 0 (p.instructions i)
  pub exact : {image : List ℕ} {entry limit : ℕ} {left : MachineState} (p : RunsProgram image entry limit left)
      → limit ≤ most_shown_steps → (i : ℕ) → i ≤ turns limit (start image entry)
      → (p.machine i).count ≡ p.instructions i
  pub within : {image : List ℕ} {entry limit : ℕ} {left : MachineState} (p : RunsProgram image entry limit left)
      (i : ℕ) → i < turns limit (start image entry)
      → (p.machine (i + 1)).count ≤ (p.machine i).count + bound (run i (start image entry)).last
  pub last : {image : List ℕ} {entry limit : ℕ} {left : MachineState} (p : RunsProgram image entry limit left)
      → (run limit (start image entry)).stop ≡ None
      → (p.machine (run limit (start image entry)).done).count ≡ left.count
  pub stop : {image : List ℕ} {entry limit : ℕ} {left : MachineState} (p : RunsProgram image entry limit left)
      → left.count ≤ (p.machine (run limit (start image entry)).done).count + 400

-- Profile: no step takes more instructions than the longest MOVE, of 16,384 bytes.
abbrev pub bound_of_step : ℕ
bound_of_step = 440 + 64 * 16384

-- The most instructions of a number of steps: boot, the steps, and a step that stops.
abbrev pub bound_of_steps : ℕ → ℕ
bound_of_steps steps = bound_of_boot + steps * bound_of_step + 400

-- The law, which is proved: the count of the machine that is left of a run is at most this number, of the steps that
-- were made, and so of their limit.
pub record CountsAreBounded : Type 0 where
  pub made : (image : List ℕ) (entry limit : ℕ) (left : MachineState) → RunsProgram image entry limit left
      → left.count ≤ bound_of_steps (run limit (start image entry)).done
  pub limited : (image : List ℕ) (entry limit : ℕ) (left : MachineState) → RunsProgram image entry limit left
      → left.count ≤ bound_of_steps limit

-- the law, which is proved: there is at most one report of counts
abbrev pub OneReportOfCounts : Type 0
OneReportOfCounts =
    (limit : ℕ) (image : Image) (entry : ℕ) (first second : Report)
    → ReportsCounts limit image entry first → ReportsCounts limit image entry second → first ≡ second
