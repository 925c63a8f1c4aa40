use Rattle.std.proofs.Common.{◌≡◌, ℕ, List, ◌+◌, ◌/◌, ◌%◌, length, drop, ap, subst, ◌∙◌, arith}
use Rattle.std.proofs.lemmas.Result.{err_from_is_err_and}
use Rattle.bench_io.specs.Written.{Written}
use Rattle.bench_io.proofs.Writes.{missed_at, written_after}
use Rattle.gpl_list_defs.specs.Text.{line_text, further_lines, row_lines}
use Rattle.gpl_list.specs.Reading.{model_of_row}
use Rattle.gpl_list.proofs.Further.{rows_wrap}
use Rattle.gpl_list.proofs.write.RowInLines.put.Goals as goal

pub returns-in_err-put_chunk : goal.returns-in_err-put_chunk
unfolding row_lines
returns-in_err-put_chunk g c =
    let row = model_of_row c.args.self.now in
    let p = err_from_is_err_and c.from_residual.result c.from_residual.ensures.1 in
    let missed = rw (c.as_slice.ensures.value, c.line_text.ensures) at c.in_err-put_chunk.ensures in
    rw p.1 (missed_at _ _ (line_text row) (further_lines (row.at + 8) (drop 8 row.bytes)) missed)

pub returns : goal.returns
unfolding row_lines
returns g c =
    let row = model_of_row c.args.self.now in
    let wrote = rw (c.as_slice.ensures.value, c.line_text.ensures) at c.in_ok-put_chunk.ensures in
    let bytes : c.further_bytes.result.now ≡ drop 8 row.bytes = c.further_bytes.ensures ∙ ap (drop 8) c.as_slice-bytes.ensures.value in
    let lines : further_lines ((c.address.result + 8) % 65536) c.further_bytes.result.now ≡ further_lines (row.at + 8) (drop 8 row.bytes) =
    ap (further_lines ((c.address.result + 8) % 65536)) bytes
    ∙ rows_wrap ((length (drop 8 row.bytes) + 7) / 8) ((c.address.result + 8) % 65536) (row.at + 8) (drop 8 row.bytes) (omega (arith, c.address.ensures.value)) in
    written_after _ _ _ _ (line_text row) (further_lines (row.at + 8) (drop 8 row.bytes)) wrote
    (subst (λ (lines : List (List ℕ)). Written c.put_further.result (g.O.Sink.state c.put_chunk.new.sink) (g.O.Sink.state c.put_further.new.out) lines) lines c.put_further.ensures)
