use Rattle.std.proofs.Common.{◌≡◌, ◌+◌, ◌-◌, ◌*◌, ◌≤◌, length, drop}
use Rattle.std.specs.List.{sum}
use Rattle.base_defs.specs.Lists.{sum_bytes}
use Rattle.lane_scan.proofs.sum.sum_bytes.Given as goal

abbrev pub invariant-loop-at : goal.invariant-loop-at
invariant-loop-at l = (sum_bytes l.a ≡ l.total + sum (drop l.at l.a)) × (l.total ≤ 255 * l.at) × (l.at ≤ length l.a)

abbrev pub decreases-loop-at : goal.decreases-loop-at
decreases-loop-at l = length l.a - l.at
