use Rattle.sim_rows.proofs.Family.{at_row, stopped}
use Rattle.sim_misc.proofs.Dispatch.{entry, rows, source_seen, source_space, turned}
use Rattle.sim_misc.proofs.family.run_exchange_row.Goals as goal

pub start_row-requires : goal.start_row-requires
start_row-requires g c = at_row rows c.requires

pub returns-in_default : goal.returns-in_default
returns-in_default g c = stopped rows c.requires c.in_default.is c.start_row.ensures

pub run_exchange-requires-clause-entry : goal.run_exchange-requires-clause-entry
run_exchange-requires-clause-entry g c = entry c.requires c.in-Some.is c.start_row.ensures

pub run_exchange-requires-clause-source_space : goal.run_exchange-requires-clause-source_space
run_exchange-requires-clause-source_space g c = source_space c.requires c.in-Some.is c.start_row.ensures

pub run_exchange-requires-clause-source_visible : goal.run_exchange-requires-clause-source_visible
run_exchange-requires-clause-source_visible g c = source_seen c.requires c.in-Some.is c.start_row.ensures

pub returns : goal.returns
returns g c = turned c.requires c.in-Some.is c.start_row.ensures c.run_exchange.ensures
