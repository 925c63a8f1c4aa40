use Rattle.sim_rows.proofs.Family.{at_row, entry, stopped}
use Rattle.sim_stack.proofs.Dispatch.{rows}
use Rattle.sim_stack.proofs.Meaning.{byte_row, turned}
use Rattle.sim_stack.proofs.family.run_stack_row.Goals as goal

pub start_row-requires : goal.start_row-requires
start_row-requires g c = at_row rows c.requires

pub returns-in_default : goal.returns-in_default
returns-in_default g c = stopped rows c.requires c.in_default.is c.start_row.ensures

pub run_row-requires-clause-entry : goal.run_row-requires-clause-entry
run_row-requires-clause-entry g c = entry rows c.requires c.in-Some.is c.start_row.ensures

pub run_row-requires-clause-byte : goal.run_row-requires-clause-byte
run_row-requires-clause-byte g c = byte_row c.requires c.in-Some.is c.start_row.ensures

pub returns : goal.returns
returns g c = turned c.requires c.in-Some.is c.start_row.ensures c.run_row.ensures c.turn_here.ensures
