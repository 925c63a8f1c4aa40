use Rattle.std.proofs.Common.{◌≡◌, Option, subst, true}
use Rattle.sim_rows.proofs.Common.{GplOperation, shown_by}
use Rattle.sim_steps.specs.Families.{belongs}
use Rattle.sim_steps.proofs.Turns
use Rattle.sim_steps.proofs.turn.gpl_turn.Goals as goal

pub current_operation-requires-clause-wp : goal.current_operation-requires-clause-wp
current_operation-requires-clause-wp g c = c.begin_step.ensures.is_at.wp

pub current_operation-requires-clause-dispatched : goal.current_operation-requires-clause-dispatched
current_operation-requires-clause-dispatched g c =
    Turns.dispatched (shown_by c.args.machine.now.cpu.memory) c.args.machine.now c.begin_step.new.machine c.args.steps.now c.begin_step.new.steps
    c.begin_step.ensures

pub run_family-requires : goal.run_family-requires
run_family-requires g c =
    Turns.at_dispatch (shown_by c.args.machine.now.cpu.memory) c.args.machine.now c.begin_step.new.machine c.args.steps.now c.begin_step.new.steps
    c.begin_step.ensures (belongs c.family_of.result)
    (subst (λ (o : Option GplOperation). belongs c.family_of.result o ≡ true) c.current_operation.ensures c.family_of.ensures.belongs)

pub returns : goal.returns
returns g c =
    Turns.turned (shown_by c.args.machine.now.cpu.memory) c.args.machine.now c.begin_step.new.machine c.args.steps.now c.begin_step.new.steps
    c.begin_step.ensures c.run_family.new.machine c.run_family.new.steps c.run_family.result c.run_family.ensures
