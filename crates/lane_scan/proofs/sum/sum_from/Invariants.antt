use Rattle.std.proofs.Common.{◌≡◌, ◌+◌, ◌*◌, ◌≤◌, drop}
use Rattle.std.specs.List.{sum}
use Rattle.lane_scan.proofs.sum.sum_from.Given as goal

abbrev pub invariant-loop-at : goal.invariant-loop-at
invariant-loop-at l = (sum (drop l.from l.a) ≡ l.total + sum (drop l.at l.a)) × (l.total ≤ 255 * l.at)
