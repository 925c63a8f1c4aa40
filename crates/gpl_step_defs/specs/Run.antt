-- Runs of steps.
use Rattle.std.specs.Prelude.{ℕ, zero, suc, ◌+◌, ◌*◌, length, Option, Some, None, Result, Ok, Err}
use Rattle.source_defs.specs.Refusals.{◌>>=◌}
use Rattle.gpl_defs.specs.declared.instruction.ByteOp.TheVariants.{ALL}
use Rattle.gpl_defs.specs.declared.instruction.GplInstr.{GplInstr}
use Rattle.gpl_defs.specs.declared.instruction.GplInstr.TheVariants.{Byte, Move}
use Rattle.gpl_defs.specs.declared.instruction.GplRead.{GplRead}
use Rattle.gpl_defs.specs.declared.instruction.GplRead.TheVariants.{Instr, Refused}
use Rattle.gpl_defs.specs.Reading.{reading}
use Rattle.gpl_step_defs.specs.declared.reason.Reason.{Reason}
use Rattle.gpl_step_defs.specs.State.{GplState}
use Rattle.gpl_step_defs.specs.Copy.{length_of}
use Rattle.gpl_step_defs.specs.Step.{step}

-- The state after a number of steps, or the reason of the first stop among them.
abbrev pub steps : ℕ → GplState → Result GplState Reason
steps zero s = Ok s
steps (suc count) s = step s >>= λ next. steps count next

-- A run of up to `limit` steps: how many were done, the last state, and why there was no further step, if it stopped.
pub record GplRun : Type 0 where
  pub done : ℕ
  pub last : GplState
  pub stop : Option Reason

abbrev pub one_more : GplRun → GplRun
one_more r = record r { done = r.done + 1 }

abbrev pub run : ℕ → GplState → GplRun
run zero s = record { done = 0; last = s; stop = None }
run (suc limit) s =
    elim (step s) [
      | Ok next ↦ one_more (run limit next)
      | Err reason ↦ record { done = 0; last = s; stop = Some reason }
    ]

-- The turns of the interpreter in a run: one for each step that was done, and one for the stop if there is one.
abbrev pub turns_made : Option Reason → ℕ → ℕ
turns_made None done = done
turns_made (Some reason) done = done + 1

abbrev pub turns : ℕ → GplState → ℕ
turns limit s = turns_made (run limit s).stop (run limit s).done

-- How many instructions of the processor a step may take at most.
-- Profile: 400 where it stops; else 440, and 64 for each byte that MOVE copies, and 6,144 for ALL.
abbrev pub bytes_or_none : Result ℕ Reason → ℕ
bytes_or_none (Ok bytes) = bytes
bytes_or_none (Err reason) = 0

abbrev pub bound_of : GplInstr → GplState → ℕ
bound_of (Move length target source) s = 440 + 64 * bytes_or_none (length_of s length)
bound_of (Byte ALL value) s = 440 + 6144
bound_of _ s = 440

abbrev pub bound_at : GplRead → GplState → ℕ
bound_at (Instr instr next) s = bound_of instr s
bound_at (Refused code) s = 400

abbrev pub bound_by : Result GplState Reason → GplState → ℕ
bound_by (Ok next) s = bound_at (reading s.image s.pc) s
bound_by (Err reason) s = 400

abbrev pub bound : GplState → ℕ
bound s = bound_by (step s) s
