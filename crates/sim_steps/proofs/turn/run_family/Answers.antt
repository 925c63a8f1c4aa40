use Rattle.std.proofs.Common.{subst}
use Rattle.sim_rows.proofs.Common.{AtDispatch}
use Rattle.sim_steps.specs.declared.family.Family.{Family}
use Rattle.sim_steps.specs.Families.{belongs}
use Rattle.sim_steps.proofs.Turns.{refused, at_stop}
use Rattle.sim_steps.proofs.turn.run_family.Goals as goal

pub stop_code-requires : goal.stop_code-requires
stop_code-requires g c = at_stop c.args.machine.now (subst (λ (f : Family). AtDispatch (belongs f) c.args.machine.now) c.in-Refused.is c.requires)

pub returns-in-Refused : goal.returns-in-Refused
returns-in-Refused g c =
    refused c.args.machine.now c.stop_code.new.machine c.args.steps.now c.stop_code.new.steps
    (subst (λ (f : Family). AtDispatch (belongs f) c.args.machine.now) c.in-Refused.is c.requires) c.stop_code.ensures
