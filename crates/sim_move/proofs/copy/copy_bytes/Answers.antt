use Rattle.sim_move.proofs.CopyEnds
use Rattle.sim_move.proofs.copy.copy_bytes.Goals as goal

pub copy_rest-requires : goal.copy_rest-requires
copy_rest-requires g c = CopyEnds.at_copy c.start_copy.ensures c.requires

pub returns : goal.returns
returns g c =
    CopyEnds.copies_bytes c.start_copy.ensures c.requires c.copy_rest.new.machine c.end_copy.new.machine c.copy_rest.new.steps c.end_copy.new.steps
    c.copy_rest.ensures.copies c.end_copy.ensures
