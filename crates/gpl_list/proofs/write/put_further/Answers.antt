use Rattle.std.proofs.Common.{◌≡◌, ◌+◌, ◌/◌, ◌%◌, ◌<◌, length, take, drop, sym, ap, ◌∙◌, arith}
use Rattle.std.proofs.lemmas.Result.{err_from_is_err_and}
use Rattle.std.proofs.lemmas.Grind.{common_steps}
use Rattle.bench_io.proofs.Progress.{listed_more, listed_missed, listed_same}
use Rattle.gpl_list_defs.specs.Text.{further_line, further_lines}
use Rattle.gpl_list.proofs.Further.{one_row, rows_wrap}
use Rattle.gpl_list.proofs.write.put_further.Goals as goal

pub returns-in_err-put_chunk : goal.returns-in_err-put_chunk
returns-in_err-put_chunk g c =
    let rest = c.loop-rest.rest.now in
    let place = c.loop-rest.place in
    let p = err_from_is_err_and c.from_residual.result c.from_residual.ensures.1 in
    let some : 0 < length rest = grind (arith, common_steps, c.is_empty.ensures) in
    let missed = rw (c.as_slice.ensures.value, c.further_line.ensures, c.first_bytes.ensures.bytes) at c.in_err-put_chunk.ensures in
    rw p.1 (listed_missed _ _ _ _ (further_lines (place + 8) (drop 8 rest)) (further_line place (take 8 rest))
    (listed_same _ _ _ _ _ (one_row place rest some) c.loop-rest.invariant) missed)

pub loop-rest-preserved : goal.loop-rest-preserved
loop-rest-preserved g c =
    let rest = c.loop-rest.rest.now in
    let place = c.loop-rest.place in
    let some : 0 < length rest = grind (arith, common_steps, c.is_empty.ensures) in
    let wrote = rw (c.as_slice.ensures.value, c.further_line.ensures, c.first_bytes.ensures.bytes) at c.in_ok-put_chunk.ensures in
    let wraps : further_lines (place + 8) (drop 8 rest) ≡ further_lines ((place + 8) % 65536) c.further_bytes-rest.result.now =
    rows_wrap ((length (drop 8 rest) + 7) / 8) (place + 8) ((place + 8) % 65536) (drop 8 rest) (omega arith)
    ∙ ap (further_lines ((place + 8) % 65536)) (sym c.further_bytes-rest.ensures) in
    listed_same _ _ _ _ _ wraps
    (listed_more _ _ _ _ (further_lines (place + 8) (drop 8 rest)) (further_line place (take 8 rest))
    (listed_same _ _ _ _ _ (one_row place rest some) c.loop-rest.invariant) wrote)
