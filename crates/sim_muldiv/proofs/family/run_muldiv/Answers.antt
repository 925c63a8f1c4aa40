use Rattle.std.proofs.Common.{arith}
use Rattle.sim_rows.proofs.Common.{state_at_dispatch, view}
use Rattle.sim_rows.proofs.Family.{at_row, begun, entry, stopped, turned}
use Rattle.sim_muldiv.proofs.Meaning.{rows, runs_row}
use Rattle.sim_muldiv.proofs.RowFacts.{ready}
use Rattle.sim_muldiv.proofs.family.run_muldiv.Goals as goal

pub start_row-requires : goal.start_row-requires
start_row-requires g c = at_row rows c.requires

pub returns-in_default : goal.returns-in_default
returns-in_default g c = stopped rows c.requires c.in_default.is c.start_row.ensures

pub run_row-requires : goal.run_row-requires
run_row-requires g c =
    let e = entry rows c.requires c.in-Some.is c.start_row.ensures in
    let b = begun rows c.requires c.in-Some.is c.start_row.ensures in
    record {
      is_at = e.is_at;
      family = e.family;
      ready = ready (state_at_dispatch (view c.args.machine.now)) b.place b.source
          (view c.start_row.new.machine) c.requires.family b.comes.holds b.is_both;
    }

pub returns : goal.returns
returns g c =
    let e = entry rows c.requires c.in-Some.is c.start_row.ensures in
    turned rows c.requires c.in-Some.is c.start_row.ensures 91 (omega arith)
    (runs_row e.is_at.machine _ e.family c.run_row.ensures)
