use Rattle.std.proofs.Common.{ap, arith}
use Rattle.std.proofs.lemmas.List.Sums.{count_by-le-length}
use Rattle.std.proofs.lemmas.Slice.Zip.{length-zip}
use Rattle.std.specs.Int.RustNames.{count_ones}
use Rattle.std.specs.List.{zip}
use Rattle.base_defs.specs.Lists.{is_different}
use Rattle.lane_scan.proofs.Places.{counted}
use Rattle.lane_scan.proofs.count.count_differences.Goals as goal

pub overflow_add-count : goal.overflow_add-count
overflow_add-count c =
    let z = zip c.args.a.now c.args.b.now in
    let split = counted z c.loop-at.at 64 in
    let ones = ap count_ones c.differing_lanes.ensures in
    omega (arith, split, ones, count_by-le-length is_different z, length-zip c.args.a.now c.args.b.now)

pub loop-at-preserved : goal.loop-at-preserved
loop-at-preserved c =
    let z = zip c.args.a.now c.args.b.now in
    let split = counted z c.loop-at.at 64 in
    let ones = ap count_ones c.differing_lanes.ensures in
    (omega (arith, split, ones), omega arith)

pub overflow_add-result : goal.overflow_add-result
overflow_add-result c =
    let z = zip c.args.a.now c.args.b.now in
    omega (arith, count_by-le-length is_different z, length-zip c.args.a.now c.args.b.now, c.count_from.ensures)

pub returns-clause-bound : goal.returns-clause-bound
returns-clause-bound c =
    let z = zip c.args.a.now c.args.b.now in
    omega (arith, count_by-le-length is_different z, length-zip c.args.a.now c.args.b.now, c.count_from.ensures)
