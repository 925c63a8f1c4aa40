-- Linked memory holds exactly the words that are placed.
use Rattle.std.proofs.Common.{◌≡◌, ℕ, zero, suc, ◌<◌, true, false, length, get_or, List, [], ◌∷◌, ◌++◌, map, refl, sym, ap, ◌∙◌, append_assoc}
use Rattle.std.proofs.Common.{arith, Option, Some, None, Result, Ok}
use Rattle.std.specs.Prelude.{◌==◌, is_some}
use Rattle.std.specs.Ordering.{nat_cmp, eq_by_cmp}
use Rattle.std.specs.Cmp.{nat_cmp_total}
use Rattle.std.specs.FinMap.{find, get, get-from_entries}
use Rattle.source_defs.proofs.RefusalLaws.{bound}
use Rattle.link_defs.specs.Causes.{LinkCause, DuplicateDef, OutOfMemoryRange, Overlap, Unresolved}
use Rattle.link_defs.specs.Placing.{sections, defs_of, section_words, refs_of, entries_of}
use Rattle.link_defs.specs.First.{first, first_after, refused_by}
use Rattle.link_defs.specs.Chains.{uses_of}
use Rattle.link_defs.specs.LinkedMemory.{LinkedMemory, is_defined_again, is_outside, is_taken, is_unresolved, first_entry, filled, linked}
use Rattle.link_defs.specs.Laws.{PlacedWordsAreHeld}
use Rattle.link_loader.proofs.Filled.{found_filled}
use Rattle.link_loader.proofs.Words.{pick, ties, none_found}

found_after : (q : ℕ) (before words : List (ℕ × ℕ)) → find nat_cmp q before ≡ None → find nat_cmp q (before ++ words) ≡ find nat_cmp q words
found_after q [] words none = refl
found_after q (word ∷ before) words none =
    pick (eq_by_cmp nat_cmp q word.0) (λ e. let some = rw e at none in absurd cc) (λ e. rw e (found_after q before words (rw e at none)))

found_here : (word : ℕ × ℕ) (words : List (ℕ × ℕ)) → find nat_cmp word.0 (word ∷ words) ≡ Some word.1
found_here word words = let same : (word.0 == word.0) ≡ true = grind arith in rw (ties word.0 word.0, same) refl

-- where no word is at the address of one before, each is found by its address
each_found : (before words : List (ℕ × ℕ)) (k : ℕ) (d : ℕ × ℕ) → first_after is_taken before words ≡ None → k < length words → find nat_cmp (get_or words k d).0 (before ++ words) ≡ Some (get_or words k d).1
each_found before [] k d none lt = absurd (omega (arith, lt))
each_found before (word ∷ words) k d none lt =
    pick (is_some (find nat_cmp word.0 before)) (λ is. let some = rw is at none in absurd cc)
    (λ is. by k lt (each_found (before ++ word ∷ []) words) is (rw is at none))
  where
    by : (k : ℕ) → k < length (word ∷ words) → ((j : ℕ) (d : ℕ × ℕ) → first_after is_taken (before ++ word ∷ []) words ≡ None → j < length words
        → find nat_cmp (get_or words j d).0 ((before ++ word ∷ []) ++ words) ≡ Some (get_or words j d).1) → is_some (find nat_cmp word.0 before) ≡ false
        → first_after is_taken (before ++ word ∷ []) words ≡ None → find nat_cmp (get_or (word ∷ words) k d).0 (before ++ word ∷ words) ≡ Some (get_or (word ∷ words) k d).1
    by zero lt rest is none = found_after word.0 before (word ∷ words) (none_found (find nat_cmp word.0 before) is) ∙ found_here word words
    by (suc k) lt rest is none = rw append_assoc at (rest k d none (omega (arith, lt)))

none_taken : (found value : Option (ℕ × ℕ)) → refused_by (λ (word : ℕ × ℕ). Overlap word.0) found ≡ Ok value → found ≡ None
none_taken (Some word) value e = absurd cc
none_taken None value e = refl

same_memory : (a b : LinkedMemory) → ◌≡◌ {A = Result LinkedMemory LinkCause} (Ok a) (Ok b) → a ≡ b
same_memory a b e = cc

pub placed_words_are_held : PlacedWordsAreHeld
unfolding linked
placed_words_are_held modules memory e =
    let defs = defs_of (sections modules) in
    let words = section_words (sections modules) in
    let refs = refs_of (sections modules) in
    let apart = bound (refused_by (λ (definition : List ℕ × ℕ). DuplicateDef definition.0) (first is_defined_again defs)) _ memory e in
    let inside = bound (refused_by (λ (word : ℕ × ℕ). OutOfMemoryRange word.0) (first is_outside words)) _ memory apart.2 in
    let alone = bound (refused_by (λ (word : ℕ × ℕ). Overlap word.0) (first is_taken words)) _ memory inside.2 in
    let uses = bound (uses_of words [] refs) _ memory alone.2 in
    let known = bound (refused_by (λ (ref : List ℕ × ℕ). Unresolved ref.0) (first (is_unresolved defs) refs)) _ memory uses.2 in
    let entry = bound (first_entry (entries_of (sections modules))) _ memory known.2 in
    let is = same_memory _ _ entry.2 in
    record {
      uses = uses.0;
      are_uses = uses.1;
      words = λ at.
          ap (λ (m : LinkedMemory). get m.words at) (sym is)
          ∙ (get-from_entries nat_cmp_total (map (filled defs uses.0) words) at ∙ found_filled defs uses.0 at words);
      alone = λ k d lt. each_found [] words k d (none_taken (first is_taken words) alone.0 alone.1) lt;
    }
