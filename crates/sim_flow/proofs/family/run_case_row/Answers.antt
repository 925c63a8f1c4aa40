use Rattle.std.proofs.Common.{arith, Some, subst, sym}
use Rattle.sim_rows.proofs.Common.{GplOperation, bound_of_case_row, row_entry, RunsRow, IsAt}
use Rattle.sim_rows.proofs.Family.{at_row, entry, stopped, turned}
use Rattle.sim_flow.proofs.Dispatch.{case_alone, rows}
use Rattle.sim_flow.proofs.family.run_case_row.Goals as goal

pub start_row-requires : goal.start_row-requires
start_row-requires g c = at_row rows c.requires

pub returns-in_default : goal.returns-in_default
returns-in_default g c = stopped rows c.requires c.in_default.is c.start_row.ensures

pub run_case-requires : goal.run_case-requires
run_case-requires g c =
    let at = entry rows c.requires c.in-Some.is c.start_row.ensures in
    subst (λ (op : GplOperation). IsAt c.start_row.new.machine (row_entry (Some op))) (case_alone _ at.family) at.is_at

pub returns : goal.returns
returns g c =
    let at = entry rows c.requires c.in-Some.is c.start_row.ensures in
    turned rows c.requires c.in-Some.is c.start_row.ensures 25 (omega arith)
    (subst (λ (op : GplOperation). RunsRow op bound_of_case_row c.start_row.new.machine c.run_case.new.machine c.start_row.new.steps c.run_case.new.steps)
    (sym (case_alone _ at.family)) c.run_case.ensures)
