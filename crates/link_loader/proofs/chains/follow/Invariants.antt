use Rattle.std.proofs.Common.{◌≡◌, ℕ, List, [], drop}
use Rattle.link_defs.specs.Chains.{Uses, uses_of}
use Rattle.link_loader.specs.Holds.{KeepsNames, HoldsWords, HoldsUses}
use Rattle.link_loader.specs.declared.table.Table.{Table}
use Rattle.link_loader.proofs.chains.follow.Given as goal

-- the uses of names so far, and those that are left
pub record Goes (defs : List (List ℕ × ℕ)) (loaded : List (ℕ × ℕ)) (all left : List (List ℕ × ℕ)) (table : Table) : Type 0 where
  pub uses : Uses
  pub holds : HoldsUses defs table uses
  pub goes : uses_of loaded [] all ≡ uses_of loaded uses left

abbrev pub invariant-loop-reference : goal.invariant-loop-reference
invariant-loop-reference l =
    (defs : List (List ℕ × ℕ)) (loaded : List (ℕ × ℕ)) → KeepsNames l.names defs → HoldsWords l.words loaded
    → Goes defs loaded l.refs (drop l.reference-index l.refs) l.uses
