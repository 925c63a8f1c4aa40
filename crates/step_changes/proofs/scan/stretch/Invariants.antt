use Rattle.std.proofs.Common.{◌-◌, ◌≡◌, ◌+◌, ◌≤◌, ◌<◌, length, drop}
use Rattle.std.specs.List.{zip, prefix_len}
use Rattle.step_changes.specs.Scan.{is_made}
use Rattle.step_changes.proofs.scan.stretch.Given as goal

abbrev pub invariant-loop-end : goal.invariant-loop-end
invariant-loop-end l =
    (l.from + 1 + prefix_len (is_made l.byte) (drop (l.from + 1) (zip l.before l.now)) ≡ l.end + prefix_len (is_made l.byte) (drop l.end (zip l.before l.now)))
    × (l.end ≤ length l.now) × (l.from < l.end)

abbrev pub decreases-loop-end : goal.decreases-loop-end
decreases-loop-end l = length l.now - l.end
