use Rattle.std.proofs.Common.{◌∙◌, refl, sym}
use Rattle.sim_view.proofs.Common.{view}
use Rattle.sim_view.proofs.Routines.{exit_then}
use Rattle.sim_view.specs.native_interp.declared.addresses.TheConstants.{ASHORT}
use Rattle.sim_operands.proofs.Ends.{ends_there, goes_on}
use Rattle.sim_operands.proofs.FoundPlaces.{address_goes}
use Rattle.sim_operands.specs.Routines.{find_operand, follow_pointer}
use Rattle.sim_operands.specs.Pieces as piece
use Rattle.sim_operands.proofs.address.address_routine.Goals as goal

pub returns-then-read_address : goal.returns-then-read_address
unfolding find_operand
returns-then-read_address g c =
    goes_on ASHORT piece.short_range _ c.read_address.ensures.exits
    (sym c.read_address.ensures.short ∙ c.if-read_address.true) refl c.check_short.ensures

pub returns-else-read_address : goal.returns-else-read_address
unfolding find_operand
returns-else-read_address g c =
    let v = view c.args.machine.now in
    ends_there ASHORT (piece.address v) piece.short_range
    (exit_then follow_pointer c.read_address.ensures.exits (address_goes v) c.follow_pointer.ensures)
    (sym c.read_address.ensures.short ∙ c.if-read_address.false)
