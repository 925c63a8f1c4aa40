use Rattle.std.proofs.Common.{◌≡◌, ◌+◌, ◌≤◌, drop}
use Rattle.std.specs.List.{zip, count_by}
use Rattle.base_defs.specs.Lists.{is_different}
use Rattle.lane_scan.proofs.count.count_from.Given as goal

abbrev pub invariant-loop-at : goal.invariant-loop-at
invariant-loop-at l =
    (count_by is_different (drop l.from (zip l.a l.b)) ≡ l.count + count_by is_different (drop l.at (zip l.a l.b)))
    × (l.count ≤ l.at)
