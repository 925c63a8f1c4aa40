use Rattle.sim_rows.proofs.Common.{off, on}
use Rattle.sim_flow.proofs.Branches
use Rattle.sim_flow.proofs.family.run_branch.Goals as goal

pub read_branch_target-requires : goal.read_branch_target-requires
read_branch_target-requires g c =
    (Branches.at_target c.args._on c.requires.is c.requires.is_at c.requires.dispatched c.test_branch.ensures
    (on c.pc.ensures.value c.if-pc-eq-BTARG.true)).is_at

pub take_jump-requires : goal.take_jump-requires
take_jump-requires g c = c.read_branch_target.ensures.is_at

pub clear_condition-requires : goal.clear_condition-requires
clear_condition-requires g c =
    (Branches.passed_by c.args._on c.requires.is c.requires.is_at c.requires.dispatched c.test_branch.ensures
    (off c.pc.ensures.value c.if-pc-eq-BTARG.false)).is_at

pub returns-then-pc-eq-BTARG : goal.returns-then-pc-eq-BTARG
returns-then-pc-eq-BTARG g c =
    Branches.takes c.args._on c.requires.is c.requires.is_at c.requires.dispatched c.test_branch.ensures
    (on c.pc.ensures.value c.if-pc-eq-BTARG.true) c.read_branch_target.ensures c.take_jump.ensures

pub returns-else-pc-eq-BTARG : goal.returns-else-pc-eq-BTARG
returns-else-pc-eq-BTARG g c =
    Branches.passes_on c.args._on c.requires.is c.requires.is_at c.requires.dispatched c.test_branch.ensures
    (off c.pc.ensures.value c.if-pc-eq-BTARG.false) c.clear_condition.ensures
