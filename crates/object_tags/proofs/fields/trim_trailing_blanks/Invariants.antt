use Rattle.std.proofs.Common.{◌≡◌, ◌≤◌, length, take}
use Rattle.object_defs.specs.Fields.{trim_trailing_blanks}
use Rattle.object_tags.proofs.fields.trim_trailing_blanks.Given as goal

abbrev pub invariant-loop-end : goal.invariant-loop-end
invariant-loop-end l = record {
  within : l.end ≤ length l.field;
  same : trim_trailing_blanks (take l.end l.field) ≡ trim_trailing_blanks l.field;
}

abbrev pub decreases-loop-end : goal.decreases-loop-end
decreases-loop-end l = l.end
