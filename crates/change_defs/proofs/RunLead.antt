-- The changes of the steps of a run give its states.
use Rattle.std.proofs.Common.{◌≡◌, ℕ, zero, suc, ◌+◌, Some, Result, Ok, Err, refl, sym, ap, ◌∙◌, arith}
use Rattle.std.specs.Prelude.{IfOk}
use Rattle.gpl_step_defs.specs.declared.reason.Reason.{Reason}
use Rattle.gpl_step_defs.specs.State.{GplState, IsState}
use Rattle.gpl_step_defs.specs.Step.{step}
use Rattle.gpl_step_defs.specs.Run.{GplRun, one_more, run}
use Rattle.gpl_step_defs.proofs.KeptSteps.{steps_keep_states}
use Rattle.report_defs.specs.Trace.{seen_state}
use Rattle.change_defs.specs.Steps.{step_changes, state_applied, changes_after, RunChangesLead}
use Rattle.change_defs.proofs.Lead.{changes_lead}

state_changes_lead : (s next : GplState) → IsState s → IsState next
    → state_applied (step_changes (seen_state s) (seen_state next)) (seen_state s) ≡ seen_state next
state_changes_lead s next p q =
    rw (
      changes_lead s.cells next.cells (p.cells.size ∙ sym q.cells.size),
      changes_lead s.vdp next.vdp (p.vdp.size ∙ sym q.vdp.size),
      changes_lead s.registers next.registers (p.registers.size ∙ sym q.registers.size),
    ) refl

abbrev pub LeavesState : GplRun → Type 0
LeavesState r = IsState r.last

pub runs_keep : (limit : ℕ) (s : GplState) → IsState s → LeavesState (run limit s)
runs_keep zero s is = is
runs_keep (suc limit) s is = by (runs_keep limit) (step s) (steps_keep_states.keeps s is)
  where
    by : ((next : GplState) → IsState next → IsState (run limit next).last) → (r : Result GplState Reason) → IfOk r IsState
        → LeavesState (elim r [ Ok next ↦ one_more (run limit next) | Err reason ↦ record { done = 0; last = s; stop = Some reason } ])
    by go (Ok next) kept = go next kept
    by go (Err reason) none = is

pub run_changes_lead : RunChangesLead
run_changes_lead s is zero = refl
run_changes_lead s is (suc made) =
    let next : suc made ≡ made + 1 = omega arith in
    ap (state_applied (changes_after s made)) (run_changes_lead s is made)
    ∙ state_changes_lead (run made s).last (run (made + 1) s).last (runs_keep made s is) (runs_keep (made + 1) s is)
    ∙ ap (λ (n : ℕ). seen_state (run n s).last) (sym next)
