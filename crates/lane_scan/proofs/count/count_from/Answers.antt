use Rattle.std.proofs.Common.{arith}
use Rattle.lane_scan.proofs.Places.{counted_here, not_counted, no_count}
use Rattle.lane_scan.proofs.count.count_from.Goals.{then-a-at, else-a-at}
use Rattle.lane_scan.proofs.count.count_from.Goals as goal

pub loop-at-preserved : goal.loop-at-preserved
loop-at-preserved c =
    elim c.if-a-at.branch [
      | then-a-at w ↦
          let here = counted_here c.args.a.now c.args.b.now c.loop-at.at (omega arith) (omega arith) w.if-a-at.true in
          (omega (arith, here), omega arith)
      | else-a-at w ↦
          let here = not_counted c.args.a.now c.args.b.now c.loop-at.at (omega arith) (omega arith) w.if-a-at.false in
          (omega (arith, here), omega arith)
    ]

pub returns : goal.returns
returns c = let after = no_count c.args.a.now c.args.b.now c.loop-at.at (omega arith) in omega arith
