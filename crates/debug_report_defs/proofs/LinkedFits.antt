-- The words and the entry of linked memory have 16 bits.
use Rattle.std.proofs.Common.{◌≡◌, ℕ, ◌<◌, List, [], ◌∷◌, ◌++◌, length, map, Option, Some}
use Rattle.std.proofs.Common.{None, Result, Ok, Err, refl, sym, ◌∙◌, subst, arith}
use Rattle.std.specs.List.{flat_map, AllByRecursion}
use Rattle.std.specs.Option.{unwrap_or, option_to_list}
use Rattle.std.proofs.Common.{Ordering, Less, Equal, Greater}
use Rattle.std.specs.Ordering.{nat_cmp, eq_by_cmp}
use Rattle.std.specs.Cmp.Lexicographic.{slice_cmp}
use Rattle.std.specs.FinMap.{find, put, entries, empty, from_entries, entries-insert, len-entries, len-empty}
use Rattle.std.specs.Cmp.{nat_cmp_total}
use Rattle.std.specs.FinMap.Entries.{by_order}
use Rattle.source_defs.specs.Refusals.{Refusal, ◌>>=◌}
use Rattle.object_defs.specs.declared.causes.TagCause.{TagCause}
use Rattle.object_defs.specs.Modules.{Module}
use Rattle.object_defs.specs.Reading.{read}
use Rattle.link_defs.specs.Causes.{LinkCause, DuplicateDef, OutOfMemoryRange, Overlap, Unresolved}
use Rattle.link_defs.specs.First.{first, refused_by}
use Rattle.link_defs.specs.Chains.{Uses, uses_of}
use Rattle.link_defs.specs.Placing.{Section, sections, def_at, word_at, value_of, defs_of, section_words, refs_of, entries_of}
use Rattle.link_defs.specs.LinkedMemory.{LinkedMemory, value_in, is_defined_again, is_outside, is_taken}
use Rattle.link_defs.specs.LinkedMemory.{is_unresolved, first_entry, word_for, filled, linked_parts, linked}
use Rattle.report_defs.specs.ObjectFaults.{link_line}
use Rattle.report_defs.specs.ObjectInput.{with_line, linked_modules, linked_input}
use Rattle.debug_report_defs.proofs.Digits.{cond_both}

-- addresses with their words, each of 16 bits
abbrev pub AreWords : List (ℕ × ℕ) → Type 0
AreWords words = AllByRecursion (λ (word : ℕ × ℕ). word.1 < 65536) words

-- names with their values, each of 16 bits
abbrev AreValues : List (List ℕ × ℕ) → Type 0
AreValues defs = AllByRecursion (λ (definition : List ℕ × ℕ). definition.1 < 65536) defs

-- ---- lists

all_append : {X : Type 0} (P : X → Type 0) (a b : List X) → AllByRecursion P a → AllByRecursion P b → AllByRecursion P (a ++ b)
all_append P [] b p q = q
all_append P (x ∷ a) b p q = (p.0, all_append P a b p.1 q)

all_map : {X Y : Type 0} (P : Y → Type 0) (f : X → Y) (xs : List X) → ((x : X) → P (f x)) → AllByRecursion P (map f xs)
all_map P f [] each = tt
all_map P f (x ∷ xs) each = (each x, all_map P f xs each)

all_flat : {X Y : Type 0} (P : Y → Type 0) (f : X → List Y) (xs : List X) → ((x : X) → AllByRecursion P (f x)) → AllByRecursion P (flat_map f xs)
all_flat P f [] each = tt
all_flat P f (x ∷ xs) each = all_append P (f x) (flat_map f xs) (each x) (all_flat P f xs each)

-- ---- what the modules say

defs_fit : (all : List Section) → AreValues (defs_of all)
defs_fit all =
    all_flat (λ (definition : List ℕ × ℕ). definition.1 < 65536) _ all
    (λ section. all_map (λ (definition : List ℕ × ℕ). definition.1 < 65536) (def_at section.base) section.part.defs (λ d. omega arith))

words_fit : (all : List Section) → AreWords (section_words all)
words_fit all =
    all_flat (λ (word : ℕ × ℕ). word.1 < 65536) _ all
    (λ section. all_map (λ (word : ℕ × ℕ). word.1 < 65536) (word_at section.base) section.part.pieces (λ p. omega arith))

entries_fit : (all : List Section) → AllByRecursion (λ (n : ℕ). n < 65536) (entries_of all)
entries_fit all =
    all_flat (λ (n : ℕ). n < 65536) _ all
    (λ section. all_map (λ (n : ℕ). n < 65536) (value_of section.base) (option_to_list section.part.entry) (λ e. omega arith))

-- ---- chains

value_fits : (defs : List (List ℕ × ℕ)) (name : List ℕ) → AreValues defs → unwrap_or (value_in defs name) 0 < 65536
value_fits [] name all = omega arith
value_fits (d ∷ defs) name all =
    cond_both (λ found. unwrap_or found 0 < 65536) (eq_by_cmp (slice_cmp nat_cmp) name d.0) (Some d.1) _ all.0
    (value_fits defs name all.1)

filled_fit : (defs : List (List ℕ × ℕ)) (uses : Uses) (words : List (ℕ × ℕ)) → AreValues defs → AreWords words → AreWords (map (filled defs uses) words)
filled_fit defs uses [] values all = tt
filled_fit defs uses (word ∷ words) values all = (by (find nat_cmp word.0 uses), filled_fit defs uses words values all.1)
  where
    by : (used : Option (List ℕ)) → word_for defs word.1 used < 65536
    by None = all.0
    by (Some name) = value_fits defs name values

-- ---- maps

put_fits : (at word : ℕ) (words : List (ℕ × ℕ)) → word < 65536 → AreWords words → AreWords (put nat_cmp at word words)
put_fits at word [] lt all = (lt, tt)
put_fits at word (e ∷ es) lt all = by (nat_cmp at e.0) (put_fits at word es lt all.1)
  where
    by : (r : Ordering) → AreWords (put nat_cmp at word es) → AreWords (by_order r ((at, word) ∷ e ∷ es) ((e.0, word) ∷ es) (e ∷ put nat_cmp at word es))
    by Less rest = (lt, all)
    by Equal rest = (lt, all.1)
    by Greater rest = (all.0, rest)

no_words : (words : List (ℕ × ℕ)) → length words ≡ 0 → AreWords words
no_words [] none = tt
no_words (word ∷ words) none = absurd (omega arith)

map_fits : (words : List (ℕ × ℕ)) → AreWords words → AreWords (entries (from_entries {R = nat_cmp} words))
map_fits [] all = no_words (entries (empty {R = nat_cmp})) (sym (len-entries (empty {R = nat_cmp})) ∙ len-empty nat_cmp ℕ)
map_fits (word ∷ words) all =
    subst AreWords (sym (entries-insert nat_cmp_total (from_entries words) word.0 word.1)) (put_fits word.0 word.1 _ all.0 (map_fits words all.1))

-- ---- linking

-- linked memory of words
pub record LinkedFits (l : LinkedMemory) : Type 0 where
  pub words : AreWords (entries l.words)
  pub entry : l.entry < 65536

entry_fits : (found : List ℕ) (entry : ℕ) → AllByRecursion (λ (n : ℕ). n < 65536) found → first_entry found ≡ Ok entry → entry < 65536
entry_fits [] entry all e = absurd (cc)
entry_fits (first ∷ others) entry all e = let same : first ≡ entry = cc in subst (λ (n : ℕ). n < 65536) same all.0

parts_fit : (defs : List (List ℕ × ℕ)) (words : List (ℕ × ℕ)) (refs : List (List ℕ × ℕ)) (found : List ℕ) (l : LinkedMemory)
    → AreValues defs → AreWords words → AllByRecursion (λ (n : ℕ). n < 65536) found → linked_parts defs words refs found ≡ Ok l → LinkedFits l
parts_fit defs words refs found l values all fits e =
    by (refused_by (λ definition. DuplicateDef definition.0) (first is_defined_again defs)) (refused_by (λ word. OutOfMemoryRange word.0) (first is_outside words))
    (refused_by (λ word. Overlap word.0) (first is_taken words)) (uses_of words [] refs) (refused_by (λ ref. Unresolved ref.0) (first (is_unresolved defs) refs))
    (first_entry found)
    (λ entry is. entry_fits found entry fits is) e
  where
    made : Uses → ℕ → LinkedMemory
    made uses entry = record { words = from_entries (map (filled defs uses) words); names = defs; entry = entry }

    by : (apart : Result (Option (List ℕ × ℕ)) LinkCause) (inside alone : Result (Option (ℕ × ℕ)) LinkCause) (uses : Result Uses LinkCause)
        (known : Result (Option (List ℕ × ℕ)) LinkCause)
        (entry : Result ℕ LinkCause) → ((n : ℕ) → entry ≡ Ok n → n < 65536)
        → (apart >>= λ a. inside >>= λ b. alone >>= λ c. uses >>= λ used. known >>= λ k. entry >>= λ n. Ok (made used n)) ≡ Ok l → LinkedFits l
    by (Ok a) (Ok b) (Ok c) (Ok uses) (Ok k) (Ok entry) lt e =
        let same : made uses entry ≡ l = cc in
        subst LinkedFits same (record { words = map_fits (map (filled defs uses) words) (filled_fit defs uses words values all); entry = lt entry refl })
    by _ _ _ _ _ _ lt e = absurd (cc)

modules_fit : (modules : List Module) (l : LinkedMemory) → linked modules ≡ Ok l → LinkedFits l
unfolding linked
modules_fit modules l e =
    let all = sections modules in
    parts_fit (defs_of all) (section_words all) (refs_of all) (entries_of all) l (defs_fit all) (words_fit all) (entries_fit all) e

pub linked_fits : (input : List ℕ) (l : LinkedMemory) → linked_input input ≡ Ok l → LinkedFits l
linked_fits input l e = by (read input) e
  where
    linked_by : (answer : Result LinkedMemory LinkCause) → ((m : LinkedMemory) → answer ≡ Ok m → LinkedFits m)
        → with_line link_line answer ≡ Ok l → LinkedFits l
    linked_by (Ok m) fit e = let same : m ≡ l = cc in subst LinkedFits same (fit m refl)
    linked_by (Err cause) fit e = absurd (cc)

    by : (answer : Result (List Module) (Refusal TagCause)) → linked_modules answer ≡ Ok l → LinkedFits l
    by (Ok modules) e = linked_by (linked modules) (modules_fit modules) e
    by (Err refused) e = absurd (cc)
