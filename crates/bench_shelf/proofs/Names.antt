-- Files that are looked through for a name.
use Rattle.std.proofs.Common.{◌≡◌, ℕ, ◌-◌, ◌≤◌, ◌<◌, List, [], ◌∷◌, true, false, Some, None, sym, ◌∙◌, ap, arith}
use Rattle.std.proofs.Common.{length, get_or, take, drop}
use Rattle.std.proofs.lemmas.List.{take_all}
use Rattle.std.specs.Prelude.{cond, nat_eq}
use Rattle.std.specs.Ordering.{nat_cmp}
use Rattle.std.specs.Cmp.Lexicographic.{pointwise, slice_cmp, nat_list_cmp_total, texts_ties}
use Rattle.std.specs.FinMap.{get-from_entries, find}
use Rattle.bench_shelf.specs.MemoryShelf.{file_bytes, named}

by_first : (name : List ℕ) (files : List (List ℕ × List ℕ)) → file_bytes files name ≡ find (slice_cmp nat_cmp) name files
by_first name files = get-from_entries nat_list_cmp_total files name

-- no file has a name
pub name_nowhere : (name : List ℕ) → file_bytes [] name ≡ None
name_nowhere name = by_first name []

-- the first file has the name
pub name_here : (name first bytes : List ℕ) (others : List (List ℕ × List ℕ)) → pointwise nat_eq name first ≡ true
    → file_bytes ((first, bytes) ∷ others) name ≡ Some bytes
name_here name first bytes others same =
    by_first name ((first, bytes) ∷ others)
    ∙ ap (λ b. cond b (Some bytes) (find (slice_cmp nat_cmp) name others)) (sym (texts_ties name first) ∙ same)

-- it has another
pub name_after : (name first bytes : List ℕ) (others : List (List ℕ × List ℕ)) → pointwise nat_eq name first ≡ false
    → file_bytes ((first, bytes) ∷ others) name ≡ file_bytes others name
name_after name first bytes others same =
    by_first name ((first, bytes) ∷ others)
    ∙ (ap (λ b. cond b (Some bytes) (find (slice_cmp nat_cmp) name others)) (sym (texts_ties name first) ∙ same)
    ∙ sym (by_first name others))

module _ {B : Type 0} (see : B → List ℕ) (name : List ℕ) where
  -- the files after the first, which has another name
  pub name_past : (files : List (List ℕ × B)) (item : List ℕ × B) → 1 ≤ length files → item ≡ get_or files 0 item
      → pointwise nat_eq name item.0 ≡ false
      → file_bytes (named see (take (length files - 1) (drop 1 files))) name ≡ file_bytes (named see files) name
  name_past [] item some is other = absurd (omega (arith, some))
  name_past (first ∷ others) item some is other =
      let rest : take (length (first ∷ others) - 1) (drop 1 (first ∷ others)) ≡ others = take_all (length (first ∷ others) - 1) others (omega arith) in
      ap (λ files. file_bytes (named see files) name) rest
      ∙ sym (name_after name first.0 (see first.1) (named see others) (ap (λ (file : List ℕ × B). pointwise nat_eq name file.0) (sym is) ∙ other))

  -- no files are left
  pub name_none : (files : List (List ℕ × B)) → length files < 1 → None ≡ file_bytes (named see files) name
  name_none [] few = sym (name_nowhere name)
  name_none (first ∷ others) few = absurd (omega (arith, few))
