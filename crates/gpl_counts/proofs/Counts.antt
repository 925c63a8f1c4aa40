-- The machines of a run are those of its beginnings, and their counts are their instructions.
use Rattle.std.proofs.Common.{◌≡◌, ℕ, zero, suc, ◌+◌, ◌≤◌, List, Option, Some, None, Result, Ok, Err, refl, sym, ap, ◌∙◌, subst, arith}
use Rattle.base_defs.specs.Counts.{saturating_sum}
use Rattle.console_defs.specs.Machine.{MachineState}
use Rattle.console_defs.proofs.RunLaws.{steps-count}
use Rattle.gpl_step_defs.specs.declared.reason.Reason.{Reason}
use Rattle.gpl_step_defs.specs.State.{GplState, start}
use Rattle.gpl_step_defs.specs.Step.{step}
use Rattle.gpl_step_defs.specs.Run.{GplRun, run, turns, turns_made, one_more}
use Rattle.interp_defs.specs.Programs.{RunsProgram, EndsAs}
use Rattle.interp_defs.proofs.Machines.{machines_follow}
use Rattle.interp_defs.proofs.OneMachine.{one_machine_is_left}

-- a run by what its first step gives
abbrev pub run_by : ℕ → GplState → Result GplState Reason → GplRun
run_by limit s r =
    elim r [
      | Ok next ↦ one_more (run limit next)
      | Err reason ↦ record { done = 0; last = s; stop = Some reason }
    ]

abbrev MadeAll : ℕ → GplRun → Type 0
MadeAll i r = (r.done ≡ i) × (r.stop ≡ None)

-- the run up to a step that was made makes all its steps
pub run_made : (limit : ℕ) (s : GplState) (i : ℕ) → i ≤ (run limit s).done → MadeAll i (run i s)
run_made limit s zero within = (refl, refl)
run_made zero s (suc i) within = absurd (omega (arith, within))
run_made (suc limit) s (suc i) within = by (λ next below. run_made limit next i below) (step s) refl within
  where
    by : ((next : GplState) → i ≤ (run limit next).done → MadeAll i (run i next))
        → (r : Result GplState Reason) → step s ≡ r
        → suc i ≤ (run_by limit s r).done → MadeAll (suc i) (run_by i s r)
    by go (Ok next) is within = let r = go next (omega (arith, within)) in (omega (arith, r.0), r.1)
    by go (Err reason) is within = absurd (omega (arith, within))

-- the turns that were made, or one more
pub turns_least : (stop : Option Reason) (done : ℕ) → done ≤ turns_made stop done
turns_least None done = omega arith
turns_least (Some reason) done = omega arith

pub turns_most : (stop : Option Reason) (done : ℕ) → turns_made stop done ≤ done + 1
turns_most None done = omega arith
turns_most (Some reason) done = omega arith

module _ {image : List ℕ} {entry limit : ℕ} {left : MachineState} (p : RunsProgram image entry limit left) (i : ℕ) where
  abbrev s : GplState
  s = start image entry

  pub counts : i ≤ turns limit s → (p.machine i).count ≡ saturating_sum 0 (p.instructions i)
  counts within =
      steps-count (p.instructions i) p.boot (p.machine i) (machines_follow p i within)
      ∙ ap (λ n. saturating_sum n (p.instructions i)) p.is_boot.count

  pub shorter : i ≤ (run limit s).done → RunsProgram image entry i (p.machine i)
  shorter within =
      let made = run_made limit s i within in
      let least : (run limit s).done ≤ turns limit s = turns_least (run limit s).stop (run limit s).done in
      let all : turns i s ≡ i = ap (λ (o : Option Reason). turns_made o (run i s).done) made.1 ∙ made.0 in
      record {
        boot = p.boot;
        is_machine = p.is_machine;
        is_boot = p.is_boot;
        machine = p.machine;
        instructions = p.instructions;
        first = p.first;
        within = p.within;
        machines = record {
          matches = λ j below. p.machines.matches j (omega (arith, below, made.0, within));
          next = λ j below. p.machines.next j (omega (arith, below, all, within, least));
        };
        last = ap p.machine all;
        ends = subst (λ (o : Option Reason). EndsAs o (run i s).last (p.machine i)) (sym made.1) (p.machines.matches i within);
      }

  pub machines : i ≤ (run limit s).done → (other : MachineState) → RunsProgram image entry i other → p.machine i ≡ other
  machines within other q = one_machine_is_left image entry i (p.machine i) other (shorter within) q
