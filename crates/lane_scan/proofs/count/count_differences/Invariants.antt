use Rattle.std.proofs.Common.{◌≡◌, ◌+◌, ◌-◌, ◌≤◌, length, drop}
use Rattle.std.specs.List.{zip, count_by}
use Rattle.base_defs.specs.Lists.{is_different, count_differences}
use Rattle.lane_scan.proofs.count.count_differences.Given as goal

abbrev pub invariant-loop-at : goal.invariant-loop-at
invariant-loop-at l =
    (count_differences l.a l.b ≡ l.count + count_by is_different (drop l.at (zip l.a l.b))) × (l.at ≤ length l.a)

abbrev pub decreases-loop-at : goal.decreases-loop-at
decreases-loop-at l = length l.a - l.at
