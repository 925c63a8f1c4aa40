use Rattle.std.proofs.Common.{◌≡◌, ℕ, List, take, drop}
use Rattle.link_defs.specs.First.{first, first_after}
use Rattle.link_defs.specs.LinkedMemory.{is_unresolved}
use Rattle.link_loader.specs.Holds.{KeepsNames}
use Rattle.link_loader.proofs.names.check_names.Given as goal

-- the first of all is the first of those that are left
abbrev pub invariant-loop-reference : goal.invariant-loop-reference
invariant-loop-reference l =
    (defs : List (List ℕ × ℕ)) → KeepsNames l.names defs → first (is_unresolved defs) l.refs ≡ first_after (is_unresolved defs) (take l.reference-index l.refs) (drop l.reference-index l.refs)
