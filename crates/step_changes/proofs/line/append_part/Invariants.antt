use Rattle.std.proofs.Common.{◌-◌, length}
use Rattle.change_defs.specs.Text.{place_text}
use Rattle.step_changes.proofs.AppendedChanges.{Appending}
use Rattle.step_changes.proofs.line.append_part.Given as goal

-- the changes up to a place are in the line
abbrev pub invariant-loop-from : goal.invariant-loop-from
invariant-loop-from l = Appending (place_text l.part) l.before l.now l.fn.line l.line l.at

abbrev pub decreases-loop-from : goal.decreases-loop-from
decreases-loop-from l = length l.now - l.at
