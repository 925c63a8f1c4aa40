use Rattle.std.proofs.Common.{◌∙◌, refl, sym}
use Rattle.sim_view.proofs.Common.{ASPACE, view}
use Rattle.sim_operands.proofs.Ends.{ends_there, goes_on}
use Rattle.sim_operands.specs.Routines.{check_index}
use Rattle.sim_operands.specs.Pieces as piece
use Rattle.sim_operands.proofs.address.check_index.Goals as goal

pub returns-then-add_index : goal.returns-then-add_index
unfolding check_index
returns-then-add_index g c =
    goes_on ASPACE piece.range _ c.add_index.ensures.exits (sym c.add_index.ensures.went ∙ c.if-add_index.true) refl
    c.check_range.ensures

pub returns-else-add_index : goal.returns-else-add_index
unfolding check_index
returns-else-add_index g c =
    ends_there ASPACE (piece.index (view c.args.machine.now)) piece.range c.add_index.ensures.exits
    (sym c.add_index.ensures.went ∙ c.if-add_index.false)
