use Rattle.std.proofs.lemmas.Result.{err_from_is_err_and}
use Rattle.bench_io.proofs.Writes.{missed_early, written_more}
use Rattle.gpl_run.specs.Sessions.{gpl_state_of}
use Rattle.report_defs.specs.Program.{stop_lines, state_lines}
use Rattle.reports.proofs.report.put_program.Goals as goal

pub returns-in_err-put_stop : goal.returns-in_err-put_stop
returns-in_err-put_stop g c =
    let t = c.args.session.now in
    let p = err_from_is_err_and c.from_residual.result c.from_residual.ensures.1 in
    rw p.1 (missed_early _ _ (stop_lines t.ended (gpl_state_of t).pc) (state_lines (gpl_state_of t) t.machine) c.in_err-put_stop.ensures)

pub returns : goal.returns
returns g c =
    let t = c.args.session.now in
    written_more _ _ _ _ (stop_lines t.ended (gpl_state_of t).pc) (state_lines (gpl_state_of t) t.machine) c.in_ok-put_stop.ensures c.put_state.ensures
