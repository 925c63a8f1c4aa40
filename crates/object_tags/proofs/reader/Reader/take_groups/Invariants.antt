use Rattle.std.proofs.Common.{◌≡◌, []}
use Rattle.object_laws.specs.Running.{kept_groups, groups_after}
use Rattle.object_tags.specs.Reads.{kept_of}
use Rattle.object_tags.proofs.reader.Reader.take_groups.Given as goal

-- the groups that are left go on from here
abbrev pub invariant-loop-found : goal.invariant-loop-found
invariant-loop-found l = kept_groups (kept_of l.fn.self) (groups_after l.fn.form [] 0 l.line) ≡ kept_groups (kept_of l.self) l.found-iterator
