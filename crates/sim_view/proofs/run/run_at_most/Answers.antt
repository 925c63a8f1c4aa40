use Rattle.std.proofs.Common.{◌≡◌, ◌-◌, false, sym, ap, ◌∙◌, arith}
use Rattle.console_defs.specs.Machine.{machine_step}
use Rattle.sim_view.specs.Running.{Ran, is_last, ran}
use Rattle.sim_view.proofs.FirstStep.{ran_none, ran_last, ran_more, executed_one}
use Rattle.sim_view.proofs.run.run_at_most.Goals as goal

pub returns-then-step_is_last-clause-left : goal.returns-then-step_is_last-clause-left
returns-then-step_is_last-clause-left g c =
    let last = ran_last c.args.ends.now c.loop-left.left c.loop-left.machine (omega arith) (sym c.step_is_last.ensures.last ∙ c.if-step_is_last.true) in
    c.step_is_last.ensures.left ∙ sym (c.loop-left.invariant.left ∙ ap (λ (r : Ran). r.left) last)

pub returns-then-step_is_last-clause-count : goal.returns-then-step_is_last-clause-count
returns-then-step_is_last-clause-count g c =
    let last = ran_last c.args.ends.now c.loop-left.left c.loop-left.machine (omega arith) (sym c.step_is_last.ensures.last ∙ c.if-step_is_last.true) in
    omega (arith, ap (λ (r : Ran). r.count) last)

pub loop-left-preserved : goal.loop-left-preserved
loop-left-preserved g c =
    let goes_on : is_last c.args.ends.now (machine_step c.loop-left.machine).0 (machine_step c.loop-left.machine).1.cpu.pc ≡ false =
    sym c.step_is_last.ensures.last ∙ c.if-step_is_last.false in
    let more = ran_more c.args.ends.now c.loop-left.left c.loop-left.machine (omega arith) goes_on in
    let one = executed_one c.args.ends.now (machine_step c.loop-left.machine).0 (machine_step c.loop-left.machine).1.cpu.pc goes_on in
    let here = ap (λ x. ran c.args.ends.now (c.loop-left.left - 1) x) (sym c.step_is_last.ensures.left) in
    record {
      left = c.loop-left.invariant.left ∙ ap (λ (r : Ran). r.left) more ∙ ap (λ (r : Ran). r.left) here;
      count = omega (arith, ap (λ (r : Ran). r.count) more, ap (λ (r : Ran). r.count) here, one);
    }

pub returns-clause-left : goal.returns-clause-left
returns-clause-left g c =
    let none = ran_none c.args.ends.now c.loop-left.left c.loop-left.machine (omega (arith, c.loop-left-test.false)) in
    sym (c.loop-left.invariant.left ∙ ap (λ (r : Ran). r.left) none)

pub returns-clause-count : goal.returns-clause-count
returns-clause-count g c =
    let none = ran_none c.args.ends.now c.loop-left.left c.loop-left.machine (omega (arith, c.loop-left-test.false)) in
    omega (arith, ap (λ (r : Ran). r.count) none)
