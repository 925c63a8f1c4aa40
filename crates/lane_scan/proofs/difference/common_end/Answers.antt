use Rattle.std.proofs.Common.{arith}
use Rattle.lane_scan.proofs.Places.{same_here, differs_here, no_place}
use Rattle.lane_scan.proofs.difference.common_end.Goals as goal

pub loop-at-preserved : goal.loop-at-preserved
loop-at-preserved c =
    let here = same_here c.args.a.now c.args.b.now c.loop-at.at (omega arith) (omega arith) c.if-a-at.true in
    (omega arith, omega arith, c.loop-at.invariant.2)

pub returns-else-a-at : goal.returns-else-a-at
returns-else-a-at c =
    let here = differs_here c.args.a.now c.args.b.now c.loop-at.at (omega arith) (omega arith) c.if-a-at.false in
    omega arith

pub returns-after-loop-at : goal.returns-after-loop-at
returns-after-loop-at c = let after = no_place c.args.a.now c.args.b.now c.loop-at.at (omega arith) in omega arith
