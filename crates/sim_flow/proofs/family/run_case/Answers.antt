use Rattle.sim_flow.proofs.Cases
use Rattle.sim_flow.proofs.family.run_case.Goals as goal

pub find_branch-requires : goal.find_branch-requires
find_branch-requires g c = Cases.at_target c.request_table.ensures c.where_next.ensures

pub go_to_branch-requires : goal.go_to_branch-requires
go_to_branch-requires g c = Cases.at_end c.find_branch.ensures c.seek_address.ensures

pub returns : goal.returns
returns g c =
    Cases.runs c.requires c.request_table.ensures c.where_next.ensures c.find_branch.ensures c.seek_address.ensures c.go_to_branch.ensures
    c.take_jump.ensures
