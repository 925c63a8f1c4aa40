use Rattle.std.proofs.Common.{[], ◌∷◌, sym, subst}
use Rattle.std.proofs.lemmas.Result.{err_from_is_err_and}
use Rattle.console_defs.specs.Machine.{MachineState}
use Rattle.bench_io.specs.Written.{Written}
use Rattle.bench_io.proofs.Writes.{missed_early, written_more}
use Rattle.gpl_run.specs.Sessions.{gpl_state_of}
use Rattle.report_defs.specs.Dump.{dump_lines}
use Rattle.report_defs.specs.Program.{state_line, showing}
use Rattle.trace_dump.proofs.Shown.{showing_seen}
use Rattle.trace_dump.proofs.program.put_state.Goals as goal

pub returns-in_err-put_chunk : goal.returns-in_err-put_chunk
returns-in_err-put_chunk g c =
    let t = c.args.session.now in
    let missed = rw (c.as_slice.ensures.value, c.state_line.ensures) at c.in_err-put_chunk.ensures in
    let p = err_from_is_err_and c.from_residual.result c.from_residual.ensures.1 in
    rw p.1 (missed_early _ _ (state_line (gpl_state_of t) ∷ []) (dump_lines (showing (gpl_state_of t) t.machine)) missed)

pub returns : goal.returns
returns g c =
    let t = c.args.session.now in
    let wrote = rw (c.as_slice.ensures.value, c.state_line.ensures) at c.in_ok-put_chunk.ensures in
    let dumped = rw (c.machine.ensures) at c.dump.ensures in
    let shown =
    subst
    (λ (x : MachineState).
    Written c.dump.result (g.O.Sink.state c.put_chunk.new.sink) (g.O.Sink.state c.dump.new.out) (dump_lines x))
    (sym (showing_seen t)) dumped in
    written_more _ _ _ _ (state_line (gpl_state_of t) ∷ []) (dump_lines (showing (gpl_state_of t) t.machine)) wrote shown
