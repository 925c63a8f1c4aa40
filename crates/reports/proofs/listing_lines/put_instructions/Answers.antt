use Rattle.std.proofs.Common.{◌∙◌, arith}
use Rattle.std.proofs.lemmas.Result.{err_from_is_err_and}
use Rattle.reports.proofs.Listings.{rest_taken, listed_more, listed_missed, listed_all, place_count}
use Rattle.reports.proofs.listing_lines.put_instructions.Goals as goal

pub returns-in_err-put_chunk : goal.returns-in_err-put_chunk
returns-in_err-put_chunk g c =
    let p = err_from_is_err_and c.from_residual.result c.from_residual.ensures.1 in
    let missed = rw (c.as_slice.ensures.value, c.make_front_line-count.ensures.line, rest_taken c.loop-place.place c.args.bytes.now) at c.in_err-put_chunk.ensures in
    rw p.1 (listed_missed c.args.at c.loop-place.place c.args.bytes.now _ _ _ c.loop-place-test.true c.loop-place.invariant.listed missed)

pub loop-place-preserved : goal.loop-place-preserved
loop-place-preserved g c =
    let wrote = rw (c.as_slice.ensures.value, c.make_front_line-count.ensures.line, rest_taken c.loop-place.place c.args.bytes.now) at c.in_ok-put_chunk.ensures in
    let is = c.from.ensures ∙ (rw (rest_taken c.loop-place.place c.args.bytes.now) at c.make_front_line-count.ensures.count) in
    record {
      listed = listed_more c.args.at c.loop-place.place c.from.result c.args.bytes.now _ _ _ c.loop-place-test.true is c.loop-place.invariant.listed wrote;
      within = (place_count c.args.at c.loop-place.place c.from.result c.args.bytes.now c.loop-place-test.true is).1;
    }

pub loop-place-smaller : goal.loop-place-smaller
loop-place-smaller g c =
    let is = c.from.ensures ∙ (rw (rest_taken c.loop-place.place c.args.bytes.now) at c.make_front_line-count.ensures.count) in
    let within = place_count c.args.at c.loop-place.place c.from.result c.args.bytes.now c.loop-place-test.true is in
    omega (arith, within.0, within.1)

pub returns : goal.returns
returns g c =
    listed_all c.args.at c.loop-place.place c.args.bytes.now _ _ (omega (arith, c.loop-place-test.false)) c.loop-place.invariant.listed
