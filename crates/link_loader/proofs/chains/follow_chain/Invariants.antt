use Rattle.std.proofs.Common.{◌≡◌, ℕ, List, ◌-◌}
use Rattle.link_defs.specs.Chains.{Uses, uses_from}
use Rattle.link_loader.specs.Holds.{HoldsWords, HoldsUses, value_or_0}
use Rattle.link_loader.specs.declared.table.Table.{Table}
use Rattle.link_loader.proofs.chains.follow_chain.Given as goal

-- the uses of a chain so far, and that it goes on from a place
pub record Goes (defs : List (List ℕ × ℕ)) (loaded : List (ℕ × ℕ)) (name : List ℕ) (before : Uses) (last : ℕ) (table : Table) (left place : ℕ) : Type 0 where
  pub uses : Uses
  pub holds : HoldsUses defs table uses
  pub goes : uses_from 65536 loaded name before last ≡ uses_from left loaded name uses place

abbrev pub invariant-loop : goal.invariant-loop
invariant-loop l =
    (defs : List (List ℕ × ℕ)) (loaded : List (ℕ × ℕ)) (name : List ℕ) (before : Uses)
    → HoldsWords l.words loaded → l.value ≡ value_or_0 defs name → HoldsUses defs l.fn.uses before
    → Goes defs loaded name before l.last l.uses (65536 - l.counter) l.place
