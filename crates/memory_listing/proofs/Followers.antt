-- The rows of words, word by word.
use Rattle.std.proofs.Common.{◌≡◌, ℕ, zero, suc, ◌+◌, ◌-◌, ◌<◌, ◌≤◌, List, [], ◌∷◌, length, length-drop, take, drop, Some, refl, sym, ap, ◌∙◌, arith, true, false}
use Rattle.std.specs.Prelude.{◌==◌}
use Rattle.std.specs.List.{slice_get}
use Rattle.memory_listing.proofs.Progress.{drop_next}
use Rattle.report_defs.specs.MemoryListing.{following, words_line, rows_from}

pub following_zero : (most at : ℕ) (words : List (ℕ × ℕ)) → most ≡ 0 → following most at words ≡ 0
following_zero zero at words e = refl
following_zero (suc most) at words e = absurd (omega arith)

pub following_none : (most at : ℕ) → following most at [] ≡ 0
following_none zero at = refl
following_none (suc most) at = refl

pub following_other : (most at : ℕ) (word : ℕ × ℕ) (words : List (ℕ × ℕ)) → (word.0 ≡ at → ⊥) → following most at (word ∷ words) ≡ 0
following_other zero at word words other = refl
following_other (suc most) at word words other = let e : (word.0 == at) ≡ false = grind (arith, other) in rw e refl

pub following_more : (most at : ℕ) (word : ℕ × ℕ) (words : List (ℕ × ℕ)) → (most ≡ 0 → ⊥) → word.0 ≡ at → following most at (word ∷ words) ≡ following (most - 1) (at + 2) words + 1
following_more zero at word words some same = absurd (some refl)
following_more (suc most) at word words some same =
    let e : (word.0 == at) ≡ true = grind (arith, same) in
    let less : suc most - 1 ≡ most = omega arith in
    rw (e, less) refl

-- the rows of words, of which the first may belong to the row before them and have none of their own
abbrev pub rows_by : ℕ → List (ℕ × ℕ) → List (List ℕ)
rows_by belonging [] = []
rows_by (suc belonging) (word ∷ words) = rows_by belonging words
rows_by zero (word ∷ words) =
    let more = following 7 (word.0 + 2) words in
    words_line (word ∷ take more words) ∷ rows_by more words

skipped : (belonging : ℕ) (words : List (ℕ × ℕ)) → rows_by belonging words ≡ rows_by 0 (drop belonging words)
skipped zero words = refl
skipped (suc belonging) [] = refl
skipped (suc belonging) (word ∷ words) = skipped belonging words

-- they are those of the definition
pub rows_are : (most : ℕ) (words : List (ℕ × ℕ)) → length words ≤ most → rows_from most words ≡ rows_by 0 words
rows_are zero [] few = refl
rows_are zero (word ∷ words) few = absurd (omega (arith, few))
rows_are (suc most) [] few = refl
rows_are (suc most) (word ∷ words) few =
    let more = following 7 (word.0 + 2) words in
    let left = length-drop more words in
    ap (λ rows. words_line (word ∷ take more words) ∷ rows) (rows_are most (drop more words) (omega (arith, few, left)) ∙ sym (skipped more words))

-- a word that belongs to the row before it
pub belongs : (belonging : ℕ) (word : ℕ × ℕ) (words : List (ℕ × ℕ)) → 0 < belonging → rows_by belonging (word ∷ words) ≡ rows_by (belonging - 1) words
belongs zero word words some = absurd (omega arith)
belongs (suc belonging) word words some = ap (λ n. rows_by n words) (omega arith)

-- a word that begins a row
pub begins : (belonging : ℕ) (word : ℕ × ℕ) (words : List (ℕ × ℕ)) → belonging ≤ 0 → rows_by belonging (word ∷ words) ≡ words_line (word ∷ take (following 7 (word.0 + 2) words) words) ∷ rows_by (following 7 (word.0 + 2) words) words
begins zero word words none = refl
begins (suc belonging) word words none = absurd (omega arith)

pub ended : (belonging : ℕ) → rows_by belonging [] ≡ []
ended zero = refl
ended (suc belonging) = refl

-- the row that begins at a word, and the rows after it
pub row_at : (belonging i end more : ℕ) (pair : ℕ × ℕ) (words : List (ℕ × ℕ)) → belonging ≤ 0 → slice_get words i ≡ Some pair → end - i ≡ more + 1
    → more ≡ following 7 (pair.0 + 2) (drop (i + 1) words)
    → rows_by belonging (drop i words) ≡ words_line (take (end - i) (drop i words)) ∷ rows_by more (drop (i + 1) words)
row_at belonging i end more pair words none here size is =
    let rest = drop (i + 1) words in
    let next = drop_next words i pair here in
    let count : end - i ≡ suc more = omega arith in
    ap (rows_by belonging) next
    ∙ (begins belonging pair rest none
    ∙ (ap (λ n. words_line (pair ∷ take n rest) ∷ rows_by n rest) (sym is)
    ∙ ap (λ ws. words_line ws ∷ rows_by more rest) (sym (ap (λ n. take n (drop i words)) count ∙ ap (take (suc more)) next))))
