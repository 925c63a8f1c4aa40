use Rattle.std.proofs.Common.{◌-◌}
use Rattle.console_defs.proofs.RunLaws.{run_is_steps, run_counts}
use Rattle.tms_step.proofs.machine.Machine.run_to.Goals as goal

pub returns-clause-steps : goal.returns-clause-steps
returns-clause-steps g c =
    run_is_steps c.args.stop c.args.limit (c.run.new.steps - c.args.steps.now) c.args.self.now c.run.new.self c.run.result
    c.run.ensures.run

pub returns-clause-count : goal.returns-clause-count
returns-clause-count g c =
    run_counts c.args.stop c.args.limit (c.run.new.steps - c.args.steps.now) c.args.self.now c.run.new.self c.run.result
    c.run.ensures.run
