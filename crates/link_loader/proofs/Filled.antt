-- The words of linked memory.
use Rattle.std.proofs.Common.{◌≡◌, ℕ, List, [], ◌∷◌, map, refl, Option, Some, None}
use Rattle.std.specs.Option.{option_map}
use Rattle.std.specs.Ordering.{nat_cmp, eq_by_cmp}
use Rattle.std.specs.Cmp.{nat_cmp_total}
use Rattle.std.specs.FinMap.{find, from_sorted, from_entries, get-from_sorted, get-from_entries, same_map, nat_cmp-IsAntisymmetric}
use Rattle.link_defs.specs.Chains.{Uses}
use Rattle.link_defs.specs.LinkedMemory.{word_for, filled}
use Rattle.link_loader.specs.declared.table.Table.{Table}
use Rattle.link_loader.specs.Tables.{pairs_from, replaced}
use Rattle.link_loader.specs.Holds.{cell, HoldsWords, HoldsUses, value_or_0}
use Rattle.link_loader.proofs.Pairs.{pairs_sorted, find_pairs}
use Rattle.link_loader.proofs.Words.{pick, tied}

module _ (defs : List (List ℕ × ℕ)) (uses : Uses) where
  -- what is found among the filled words
  pub found_filled : (q : ℕ) (words : List (ℕ × ℕ)) → find nat_cmp q (map (filled defs uses) words) ≡ option_map (λ word. word_for defs word (find nat_cmp q uses)) (find nat_cmp q words)
  found_filled q [] = refl
  found_filled q (word ∷ words) = pick (eq_by_cmp nat_cmp q word.0) (λ e. rw (e, tied q word.0 e) refl) (λ e. rw e (found_filled q words))

  as_replaced : (word : Option ℕ) (used : Option (List ℕ)) → option_map (λ word. word_for defs word used) word ≡ replaced word (option_map (value_or_0 defs) used)
  as_replaced None used = refl
  as_replaced (Some word) None = refl
  as_replaced (Some word) (Some name) = refl

  -- the pairs of the filled table are the entries of linked memory
  pub words_are : (old others new : Table) (words : List (ℕ × ℕ)) → HoldsWords old words → HoldsUses defs others uses
      → ((at : ℕ) → cell new at ≡ replaced (cell old at) (cell others at))
      → from_sorted {R = nat_cmp} (pairs_from 0 new.cells.items) ≡ from_entries (map (filled defs uses) words)
  words_are old others new words holds used fills =
      same_map nat_cmp_total nat_cmp-IsAntisymmetric _ _
      (λ q. rw (
        get-from_sorted nat_cmp (pairs_from 0 new.cells.items) q (pairs_sorted 0 new.cells.items),
        find_pairs q new.cells.items,
        fills q,
        holds q,
        used q,
        get-from_entries nat_cmp_total (map (filled defs uses) words) q,
        found_filled q words,
        as_replaced (find nat_cmp q words) (find nat_cmp q uses),
      ) refl)
