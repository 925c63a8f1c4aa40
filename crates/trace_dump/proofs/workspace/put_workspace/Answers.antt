use Rattle.std.proofs.Common.{[], ◌∷◌, sym, ◌∙◌}
use Rattle.std.specs.Prelude.{codes}
use Rattle.std.proofs.lemmas.Result.{err_from_is_err_and}
use Rattle.bench_io.proofs.Writes.{missed_early, written_more}
use Rattle.report_defs.specs.Dump.{registers_line}
use Rattle.trace_dump.proofs.Dumps.{shown}
use Rattle.trace_dump.proofs.workspace.put_workspace.Goals as goal

pub returns-in_err-put_chunk : goal.returns-in_err-put_chunk
returns-in_err-put_chunk g c =
    let cpu = c.args.machine.now.cpu in
    let missed = rw (c.as_slice.ensures.value, c.registers_line.ensures) at c.in_err-put_chunk.ensures in
    let p = err_from_is_err_and c.from_residual.result c.from_residual.ensures.1 in
    rw (p.1, shown cpu (sym c.has_workspace.ensures ∙ c.if-not-has_workspace.false))
    (missed_early _ _ (registers_line (codes "R0") cpu 0 ∷ []) (registers_line (codes "R8") cpu 8 ∷ []) missed)

pub returns : goal.returns
returns g c =
    let cpu = c.args.machine.now.cpu in
    let wrote = rw (c.as_slice.ensures.value, c.registers_line.ensures) at c.in_ok-put_chunk.ensures in
    let last = rw (c.as_slice-2.ensures.value, c.registers_line-2.ensures) at c.put_chunk-3.ensures in
    rw (shown cpu (sym c.has_workspace.ensures ∙ c.if-not-has_workspace.false))
    (written_more _ _ _ _ (registers_line (codes "R0") cpu 0 ∷ []) (registers_line (codes "R8") cpu 8 ∷ []) wrote last)
