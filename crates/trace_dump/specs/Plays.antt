-- Programs whose steps are shown.
use Rattle.std.specs.Prelude.{◌≡◌, ◌<◌, ℕ, ◌+◌, [], ◌∷◌, None, Result, Ok, Err}
use Rattle.bench_io.specs.Stream.{SinkState}
use Rattle.bench_io.specs.Written.{Wrote, Missed}
use Rattle.gpl_step_defs.specs.Run.{run}
use Rattle.sim_steps.specs.Running.{RunsTurns}
use Rattle.gpl_run.specs.Sessions.{SessionState, gpl_state_of}
use Rattle.gpl_counts.specs.Counts.{ShowsStep, line_after, lines_by}

-- The run of up to a number of steps was made, and the lines of all its steps were written.
pub record PlaysWhole (shows : ShowsStep) (limit : ℕ) (x y : SessionState) (before after : ℕ) (out out' : SinkState)
    (done : ℕ) : Type 0 where
  pub runs : RunsTurns (gpl_state_of x) limit x.machine y.machine before after done y.ended
  pub wrote : Wrote out out' (lines_by shows (gpl_state_of x) runs.runs.machine done)

-- A line could not be written: the lines of the steps before it were, each by one call, and a front of it. Its step is
-- the last that was made, and the program is running.
pub record BreaksOff (shows : ShowsStep) (limit : ℕ) (x y : SessionState) (before after : ℕ) (out out' : SinkState)
    : Type 0 where
  pub shown : ℕ
  pub within : shown < (run limit (gpl_state_of x)).done
  pub runs : RunsTurns (gpl_state_of x) (shown + 1) x.machine y.machine before after (shown + 1) None
  pub running : y.ended ≡ None
  pub between : SinkState
  pub wrote : Wrote out between (lines_by shows (gpl_state_of x) runs.runs.machine shown)
  pub missed : Missed between out' (line_after shows (gpl_state_of x) shown y.machine.count ∷ [])

-- A program was run for up to a number of steps, and a counter shows its instructions; by the answer.
abbrev pub Plays : {E : Type 0} → ShowsStep → ℕ → SessionState → SessionState → ℕ → ℕ → SinkState → SinkState
    → Result ℕ E → Type 0
Plays shows limit x y before after out out' (Ok done) = PlaysWhole shows limit x y before after out out' done
Plays shows limit x y before after out out' (Err error) = BreaksOff shows limit x y before after out out'
