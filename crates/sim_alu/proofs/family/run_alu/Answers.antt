use Rattle.std.proofs.Common.{arith}
use Rattle.sim_rows.proofs.Family.{at_row, entry, stopped, turned}
use Rattle.sim_alu.proofs.Dispatch.{rows}
use Rattle.sim_alu.proofs.family.run_alu.Goals as goal

pub start_row-requires : goal.start_row-requires
start_row-requires g c = at_row rows c.requires

pub returns-in_default : goal.returns-in_default
returns-in_default g c = stopped rows c.requires c.in_default.is c.start_row.ensures

pub run_row-requires : goal.run_row-requires
run_row-requires g c = entry rows c.requires c.in-Some.is c.start_row.ensures

pub returns : goal.returns
returns g c = turned rows c.requires c.in-Some.is c.start_row.ensures 50 (omega arith) c.run_row.ensures
