-- Words that are placed one by one.
use Rattle.std.proofs.Common.{◌≡◌, ℕ, zero, suc, ◌+◌, List, [], ◌∷◌, drop, sym, ap, ◌∙◌, Some}
use Rattle.std.specs.Option.{unwrap_or}
use Rattle.std.specs.List.{slice_get}
use Rattle.std.proofs.Math.Numerals.{add-one}
use Rattle.console_defs.specs.Memory.{Memory, word_placed}
use Rattle.load_defs.specs.Loaded.{with_words}

-- one word more
next_placed : (words : List (ℕ × ℕ)) (i : ℕ) (pair : ℕ × ℕ) (memory : Memory) → slice_get words i ≡ Some pair → with_words (drop i words) memory ≡ with_words (drop (suc i) words) (word_placed memory pair.0 pair.1)
next_placed [] i pair memory e = absurd cc
next_placed (word ∷ words) zero pair memory e =
    let same : word ≡ pair = ap (λ found. unwrap_or found pair) e in
    ap (λ (x : ℕ × ℕ). with_words words (word_placed memory x.0 x.1)) same
next_placed (word ∷ words) (suc i) pair memory e = next_placed words i pair memory e

pub word_more : (words : List (ℕ × ℕ)) (i : ℕ) (pair : ℕ × ℕ) (memory : Memory) → slice_get words i ≡ Some pair → with_words (drop i words) memory ≡ with_words (drop (i + 1) words) (word_placed memory pair.0 pair.1)
word_more words i pair memory e = next_placed words i pair memory e ∙ ap (λ k. with_words (drop k words) (word_placed memory pair.0 pair.1)) (sym (add-one i))
