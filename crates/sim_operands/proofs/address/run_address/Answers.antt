use Rattle.sim_operands.proofs.FoundPlaces.{finds_operand}
use Rattle.sim_operands.proofs.address.run_address.Goals as goal

pub returns : goal.returns
returns g c =
    let q = c.requires in finds_operand q.is_at q.idle q.fetched q.bytes c.address_routine.ensures
