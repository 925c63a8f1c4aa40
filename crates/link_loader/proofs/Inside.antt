-- Words are where they may be loaded.
use Rattle.std.proofs.Common.{◌≡◌, ℕ, true, List, [], ◌∷◌, ◌++◌, refl, subst, Option, Some, None}
use Rattle.std.specs.Prelude.{IsSome}
use Rattle.std.specs.Ordering.{nat_cmp, eq_by_cmp}
use Rattle.std.specs.FinMap.{find}
use Rattle.link_defs.specs.First.{first, first_after}
use Rattle.link_defs.specs.LinkedMemory.{is_loadable, is_outside}
use Rattle.link_loader.specs.Tables.{replaced}
use Rattle.link_loader.proofs.Words.{pick, tied}

found_inside : (at : ℕ) (before words : List (ℕ × ℕ)) → first_after is_outside before words ≡ None → IsSome (find nat_cmp at words) → is_loadable at ≡ true
found_inside at before [] none found = absurd cc
found_inside at before (word ∷ words) none found =
    pick (is_loadable word.0)
    (λ p. pick (eq_by_cmp nat_cmp at word.0) (λ q. rw (tied at word.0 q) p) (λ q. found_inside at (before ++ word ∷ []) words (rw p at none) (rw q at found)))
    (λ p. let some = rw p at none in absurd cc)

some_before : (word other : Option ℕ) → IsSome (replaced word other) → IsSome word
some_before None other some = absurd cc
some_before (Some word) other some = refl

-- where a word is after others have replaced it, one may be loaded
pub replaced_inside : (words : List (ℕ × ℕ)) (at : ℕ) (word other : Option ℕ) → first is_outside words ≡ None → word ≡ find nat_cmp at words → IsSome (replaced word other) → is_loadable at ≡ true
replaced_inside words at word other none is some =
    found_inside at [] words none (subst (λ (found : Option ℕ). IsSome found) is (some_before word other some))
