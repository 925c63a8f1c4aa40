use Rattle.std.proofs.Common.{◌≡◌, ◌+◌, ◌-◌, ◌∙◌, arith}
use Rattle.std.specs.Prelude.{map}
use Rattle.std.specs.List.{range_with_len}
use Rattle.std.proofs.lemmas.Result.{err_from_is_err_and}
use Rattle.object_defs.specs.Reading.{record_at}
use Rattle.object_tags.proofs.LineSteps.{line_read, line_refused, lines_end, first_number}
use Rattle.object_tags.specs.Reads.{kept_of}
use Rattle.object_tags.proofs.read.take_records.Goals as goal

pub loop-k-preserved : goal.loop-k-preserved
loop-k-preserved c =
    let text = c.args.text.now in
    let k = c.loop-k.k in
    let end = c.div_ceil-k-end.result in
    let first = first_number k end c.loop-k-test.true in
    let reads = rw first at c.loop-k.invariant in
    line_read c.args.form _ _ (record_at text k) (map (record_at text) (range_with_len (k + 1) (end - (k + 1)))) reads _
    (rw c.record_at.ensures at (c.in_ok-take_line.ensures {u = tt}))

pub returns-in_err-take_line : goal.returns-in_err-take_line
returns-in_err-take_line c =
    let text = c.args.text.now in
    let k = c.loop-k.k in
    let end = c.div_ceil-k-end.result in
    let p = err_from_is_err_and c.from_residual.result c.from_residual.ensures.1 in
    let first = first_number k end c.loop-k-test.true in
    let reads = rw first at c.loop-k.invariant in
    rw (p.1, p.2) (line_refused c.args.form _ _ (record_at text k) (map (record_at text) (range_with_len (k + 1) (end - (k + 1)))) reads
    c.in_err-take_line.field-0.0 (rw c.record_at.ensures at (c.in_err-take_line.ensures {u = tt})))

pub returns : goal.returns
returns c =
    let text = c.args.text.now in
    let k = c.loop-k.k in
    let none : c.div_ceil-k-end.result - k ≡ 0 = omega (arith, c.loop-k-test.false) in
    let reads = rw none at c.loop-k.invariant in
    reads ∙ lines_end c.args.form (kept_of c.loop-k.reader)
