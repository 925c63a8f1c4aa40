-- What steps and runs of steps are.
use Rattle.std.specs.Prelude.{List, IfOk, ◌≡◌, ℕ, ◌<◌, Option, Some, None, Ok, Err}
use Rattle.tms_defs.specs.Bytes.{HoldsBytes}
use Rattle.gpl_step_defs.specs.declared.reason.Reason.{Reason}
use Rattle.gpl_step_defs.specs.State.{GplState, IsState, start}
use Rattle.gpl_step_defs.specs.Step.{step}
use Rattle.gpl_step_defs.specs.Run.{GplRun, steps, run}

-- a run that did not stop is at its limit; another stops at its next step, before the limit
abbrev pub Ends : ℕ → GplRun → Option Reason → Type 0
Ends limit r None = r.done ≡ limit
Ends limit r (Some reason) = (r.done < limit) × (step r.last ≡ Err reason)

pub record IsRun (limit : ℕ) (s : GplState) (r : GplRun) : Type 0 where
  pub steps : steps r.done s ≡ Ok r.last
  pub ends : Ends limit r r.stop

-- the law, which is proved: a run is its steps one after the other, up to the limit or to the first that stops
abbrev pub RunsAreSteps : Type 0
RunsAreSteps = (limit : ℕ) (s : GplState) → IsRun limit s (run limit s)

-- the law, which is proved: a program begins in a state, and a step leaves one
pub record StepsKeepStates : Type 0 where
  pub begins : (image : List ℕ) (entry : ℕ) → HoldsBytes 65536 image → entry < 65536 → IsState (start image entry)
  pub keeps : (s : GplState) → IsState s → IfOk (step s) IsState
