use Rattle.std.proofs.Common.{arith}
use Rattle.lane_scan.proofs.Places.{differing}
use Rattle.lane_scan.proofs.lanes.differing_lanes.Goals as goal

pub returns : goal.returns
returns c = differing c.args.a.now c.args.b.now c.args.at (omega arith) (omega arith)
