-- The names of DEFs, one by one.
use Rattle.std.proofs.Common.{◌≡◌, ℕ, ◌+◌, ◌<◌, length, take, get_or, List, refl, sym, Some, None}
use Rattle.std.specs.Ordering.{nat_cmp}
use Rattle.std.specs.Cmp.{eq_by_cmp_equiv}
use Rattle.std.specs.Cmp.Lexicographic.{slice_cmp, nat_list_cmp_total}
use Rattle.std.specs.BTreeMap.{BTreeMap}
use Rattle.std.specs.BTreeMap as tree
use Rattle.std.specs.FinMap.Entries.{find-append}
use Rattle.std.proofs.lemmas.List.{take_more}
use Rattle.link_defs.specs.LinkedMemory.{value_in}
use Rattle.link_loader.specs.Holds.{KeepsNames}

-- one name more, that none before has
pub name_kept : (old new : BTreeMap (List ℕ) ℕ) (defs : List (List ℕ × ℕ)) (i : ℕ) (d definition : List ℕ × ℕ) → i < length defs → definition ≡ get_or defs i d
    → KeepsNames old (take i defs) → value_in (take i defs) definition.0 ≡ None
    → tree.Updates (slice_cmp nat_cmp) old new definition.0 (Some definition.1)
    → KeepsNames new (take (i + 1) defs)
name_kept old new defs i d definition lt is kept none updates name =
    rw (take_more defs i d lt, sym is, find-append (slice_cmp nat_cmp) nat_list_cmp_total (take i defs) definition.0 definition.1 name none, updates.0 name, kept name, (eq_by_cmp_equiv nat_list_cmp_total).symm definition.0 name) refl
