-- What linked memory shows.
use Rattle.std.proofs.Common.{◌≡◌, ℕ, length, List, sym, ap, ◌∙◌, Option}
use Rattle.std.specs.Ordering.{nat_cmp}
use Rattle.std.specs.FinMap.{get, len, entries, from_sorted, get-from_sorted, entries-from_sorted, len-entries}
use Rattle.link_loader.specs.Tables.{word_in, pairs_from}
use Rattle.link_loader.proofs.Pairs.{pairs_sorted, find_pairs}

module _ (pairs : List (ℕ × ℕ)) (cells : List (Option ℕ)) (listed : pairs ≡ pairs_from 0 cells) where
  pub entries_are : entries (from_sorted {R = nat_cmp} pairs) ≡ pairs
  entries_are = ap (λ es. entries (from_sorted {R = nat_cmp} es)) listed ∙ (entries-from_sorted nat_cmp (pairs_from 0 cells) (pairs_sorted 0 cells) ∙ sym listed)

  pub len_is : len (from_sorted {R = nat_cmp} pairs) ≡ length pairs
  len_is = len-entries (from_sorted {R = nat_cmp} pairs) ∙ ap length entries_are

  pub word_is : (at : ℕ) → get (from_sorted {R = nat_cmp} pairs) at ≡ word_in cells at
  word_is at =
      ap (λ es. get (from_sorted {R = nat_cmp} es) at) listed
      ∙ (get-from_sorted nat_cmp (pairs_from 0 cells) at (pairs_sorted 0 cells) ∙ find_pairs at cells)
