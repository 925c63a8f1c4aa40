use Rattle.std.proofs.Common.{[], ◌∷◌, ◌++◌}
use Rattle.std.proofs.lemmas.Result.{err_from_is_err_and}
use Rattle.bench_io.proofs.Writes.{missed_early, missed_more, written_more}
use Rattle.gpl_run.specs.Sessions.{gpl_state_of}
use Rattle.report_defs.specs.Program.{state_lines}
use Rattle.reports.specs.Watched.{end_lines, found_line}
use Rattle.reports.proofs.watched.put_watched.Goals as goal

pub returns-in_err-put_found : goal.returns-in_err-put_found
returns-in_err-put_found g c =
    let w = c.args.watched.now in
    let t = w.session in
    let p = err_from_is_err_and c.from_residual.result c.from_residual.ensures.1 in
    rw p.1
    (missed_early _ _ (found_line w.found ∷ []) (end_lines w.found t ++ state_lines (gpl_state_of t) t.machine)
    c.in_err-put_found.ensures)

pub returns-in_err-put_end : goal.returns-in_err-put_end
returns-in_err-put_end g c =
    let w = c.args.watched.now in
    let t = w.session in
    let r = c.from_residual-in_err-put_end in
    let p = err_from_is_err_and r.result r.ensures.1 in
    let ended = missed_early _ _ (end_lines w.found t) (state_lines (gpl_state_of t) t.machine) c.in_err-put_end.ensures in
    rw p.1
    (missed_more _ _ _ (found_line w.found ∷ []) (end_lines w.found t ++ state_lines (gpl_state_of t) t.machine)
    c.in_ok-put_found.ensures ended)

pub returns : goal.returns
returns g c =
    let w = c.args.watched.now in
    let t = w.session in
    let ended =
    written_more _ _ _ _ (end_lines w.found t) (state_lines (gpl_state_of t) t.machine) c.in_ok-put_end.ensures
    c.put_state.ensures in
    written_more _ _ _ _ (found_line w.found ∷ []) (end_lines w.found t ++ state_lines (gpl_state_of t) t.machine)
    c.in_ok-put_found.ensures ended
