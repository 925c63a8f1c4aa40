use Rattle.std.proofs.Common.{arith}
use Rattle.lane_scan.proofs.Sums.{chunk_and_rest}
use Rattle.lane_scan.proofs.sum.sum_bytes.Goals as goal

pub loop-at-preserved : goal.loop-at-preserved
loop-at-preserved c =
    let split = chunk_and_rest c.args.a.now c.loop-at.at 64 in
    (omega (arith, split, c.sum_of_lanes-total.ensures.value), omega (arith, c.sum_of_lanes-total.ensures.bound), omega arith)

pub overflow_add-result : goal.overflow_add-result
overflow_add-result c = omega (arith, c.sum_from.ensures.bound)
