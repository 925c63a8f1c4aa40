-- A run is its steps, one after the other.
use Rattle.std.proofs.Common.{◌≡◌, ℕ, zero, suc, ◌+◌, Option, Some, None, Result, Ok, Err, refl, ap, ◌∙◌, arith}
use Rattle.source_defs.specs.Refusals.{◌>>=◌}
use Rattle.gpl_step_defs.specs.declared.reason.Reason.{Reason}
use Rattle.gpl_step_defs.specs.State.{GplState}
use Rattle.gpl_step_defs.specs.Step.{step}
use Rattle.gpl_step_defs.specs.Run.{GplRun, one_more, steps, run}
use Rattle.gpl_step_defs.specs.Laws.{Ends, IsRun, RunsAreSteps}

-- one step before a run
ends_later : (limit : ℕ) (r : GplRun) (stop : Option Reason) → Ends limit r stop → Ends (suc limit) (one_more r) stop
ends_later limit r None e = omega (arith, e)
ends_later limit r (Some reason) e = (omega (arith, e.0), e.1)

first_of : (count : ℕ) (s next last : GplState) → step s ≡ Ok next → steps count next ≡ Ok last → steps (count + 1) s ≡ Ok last
first_of count s next last one rest =
    let more : count + 1 ≡ suc count = omega arith in
    ap (λ (n : ℕ). steps n s) more ∙ (ap (λ (r : Result GplState Reason). r >>= λ t. steps count t) one ∙ rest)

pub runs_are_steps : RunsAreSteps
runs_are_steps zero s = record { steps = refl; ends = refl }
runs_are_steps (suc limit) s = by (runs_are_steps limit) (step s) refl
  where
    by : ((next : GplState) → IsRun limit next (run limit next)) → (r : Result GplState Reason) → step s ≡ r
        → IsRun (suc limit) s (elim r [ Ok next ↦ one_more (run limit next) | Err reason ↦ record { done = 0; last = s; stop = Some reason } ])
    by go (Ok next) e = record {
      steps = first_of (run limit next).done s next (run limit next).last e (go next).steps;
      ends = ends_later limit (run limit next) (run limit next).stop (go next).ends;
    }
    by go (Err reason) e = record { steps = refl; ends = (omega arith, e) }
