use Rattle.std.proofs.Common.{◌-◌, ◌≡◌, ◌+◌, ◌≤◌, length, drop, min}
use Rattle.std.specs.List.{zip, prefix_len}
use Rattle.base_defs.specs.Lists.{is_same}
use Rattle.lane_scan.proofs.difference.common_end.Given as goal

abbrev pub invariant-loop-at : goal.invariant-loop-at
invariant-loop-at l =
    (l.from + prefix_len is_same (drop l.from (zip l.a l.b)) ≡ l.at + prefix_len is_same (drop l.at (zip l.a l.b)))
    × (l.at ≤ l.end) × (l.end ≡ min (length l.a) (length l.b))

abbrev pub decreases-loop-at : goal.decreases-loop-at
decreases-loop-at l = l.end - l.at
