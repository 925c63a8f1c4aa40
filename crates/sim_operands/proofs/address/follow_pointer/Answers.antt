use Rattle.std.proofs.Common.{◌∙◌, refl, sym}
use Rattle.sim_view.proofs.Common.{INDEX, view}
use Rattle.sim_operands.proofs.Ends.{ends_there, goes_on}
use Rattle.sim_operands.specs.Routines.{check_index, follow_pointer}
use Rattle.sim_operands.specs.Pieces as piece
use Rattle.sim_operands.proofs.address.follow_pointer.Goals as goal

pub returns-then-read_pointer : goal.returns-then-read_pointer
unfolding follow_pointer
returns-then-read_pointer g c =
    goes_on INDEX check_index _ c.read_pointer.ensures.exits (sym c.read_pointer.ensures.went ∙ c.if-read_pointer.true) refl
    c.check_index.ensures

pub returns-else-read_pointer : goal.returns-else-read_pointer
unfolding follow_pointer
returns-else-read_pointer g c =
    ends_there INDEX (piece.pointer (view c.args.machine.now)) check_index c.read_pointer.ensures.exits
    (sym c.read_pointer.ensures.went ∙ c.if-read_pointer.false)
