-- What a table of cells holds after one byte more.
use Rattle.std.proofs.Common.{◌≡◌, ℕ, zero, suc, ◌+◌, ◌*◌, ◌/◌, ◌%◌, ◌<◌, ◌≤◌, ◌≢◌, Bool, true, false, ◌||◌, List, Some, None, length, refl, sym, ap, ◌∙◌}
use Rattle.std.proofs.Common.{subst, arith}
use Rattle.std.specs.Prelude.{Option, is_some, nat_eq, slice_set}
use Rattle.std.proofs.lemmas.Bool.Decides.{nat_tests}
use Rattle.std.proofs.lemmas.Bool.{or_left, or_right}
use Rattle.std.proofs.lemmas.List.{get_or-set_same, get_or-set_other}
use Rattle.asm_defs.specs.declared.content.Content.{Content}
use Rattle.asm_defs.specs.Memory.{count_from, any_from, part_words}
use Rattle.module_image.specs.Tables.{cell, is_taken, is_taken_word, words_taken}
use Rattle.base_defs.specs.Counts.{one_if}

pub count_same : (f g : ℕ → Bool) (from n : ℕ) → ((w : ℕ) → from ≤ w → g w ≡ f w) → count_from g from n ≡ count_from f from n
count_same f g from zero same = refl
count_same f g from (suc n) same =
    let here = same from (omega arith) in
    let there = count_same f g (from + 1) n (λ w le. same w (omega arith)) in
    ap (λ b. one_if b + count_from g (from + 1) n) here ∙ ap (λ rest. one_if (f from) + rest) there

one_if_le : (b : Bool) → one_if b ≤ 1
one_if_le true = omega arith
one_if_le false = omega arith

pub count_le : (f : ℕ → Bool) (from n : ℕ) → count_from f from n ≤ n
count_le f from zero = omega arith
count_le f from (suc n) = omega (arith, one_if_le (f from), count_le f (from + 1) n)

-- a property that one number more has
count_more : (f g : ℕ → Bool) (q d from n : ℕ) → q ≡ from + d → d < n → f q ≡ false → g q ≡ true
    → ((w : ℕ) → w ≢ q → g w ≡ f w) → count_from g from n ≡ count_from f from n + 1
count_more f g q d from zero e lt unset here others = absurd (omega (arith, lt))
count_more f g q zero from (suc n) e lt unset here others =
    let at : q ≡ from = omega (arith, e) in
    let now : one_if (g from) ≡ 1 = ap one_if (subst (λ w. g w ≡ true) at here) in
    let was : one_if (f from) ≡ 0 = ap one_if (subst (λ w. f w ≡ false) at unset) in
    let rest = count_same f g (from + 1) n (λ w le. others w (λ same. omega (arith, same, le, at))) in
    omega (arith, now, was, rest)
count_more f g q (suc d) from (suc n) e lt unset here others =
    let first : one_if (g from) ≡ one_if (f from) = ap one_if (others from (λ same. omega (arith, same, e))) in
    let rest = count_more f g q d (from + 1) n (omega (arith, e)) (omega (arith, lt)) unset here others in
    omega (arith, first, rest)

pub any_later : (f : ℕ → Bool) (from n m : ℕ) → n ≡ suc m → f from ≡ false → any_from f from n ≡ any_from f (from + 1) m
any_later f from n m e unset = ap (any_from f from) e ∙ ap (λ b. b || any_from f (from + 1) m) unset

module _ (cells : List (Option Content)) (place : ℕ) (content : Content) (size : length cells ≡ 65536) (within : place < 65536) where
  abbrev after : List (Option Content)
  after = slice_set cells place (Some content)

  here_taken : is_taken after place ≡ true
  here_taken = ap is_some (get_or-set_same cells place (Some content) None (omega (arith, size, within)))

  others_same : (p : ℕ) → p ≢ place → is_taken after p ≡ is_taken cells p
  others_same p ne = ap is_some (get_or-set_other cells place p (Some content) None ne)

  word_same : (w : ℕ) → w ≢ place / 2 → is_taken_word after w ≡ is_taken_word cells w
  word_same w ne =
      let low = others_same (2 * w) (λ same. ne (omega (arith, same))) in
      let high = others_same (2 * w + 1) (λ same. ne (omega (arith, same))) in
      ap (λ b. b || is_taken after (2 * w + 1)) low ∙ ap (λ b. is_taken cells (2 * w) || b) high

  word_by : (r : ℕ) → r < 2 → place ≡ 2 * (place / 2) + r → is_taken_word after (place / 2) ≡ true
  word_by zero lt e = or_left _ _ (subst (λ p. is_taken after p ≡ true) (omega (arith, e)) here_taken)
  word_by (suc zero) lt e = or_right _ _ (subst (λ p. is_taken after p ≡ true) (omega (arith, e)) here_taken)
  word_by (suc (suc r)) lt e = absurd (omega (arith, lt))

  word_taken : is_taken_word after (place / 2) ≡ true
  word_taken = word_by (place % 2) (omega arith) (omega arith)

  pub words_more : is_taken_word cells (place / 2) ≡ false → words_taken after ≡ words_taken cells + 1
  unfolding words_taken part_words
  words_more unset = count_more (is_taken_word cells) (is_taken_word after) (place / 2) (place / 2) 0 32768 (omega arith) (omega (arith, within)) unset word_taken word_same

  same_by : (w : ℕ) (b : Bool) → nat_eq w (place / 2) ≡ b → is_taken_word cells (place / 2) ≡ true → is_taken_word after w ≡ is_taken_word cells w
  same_by w true e taken =
      let q : w ≡ place / 2 = grind (arith, nat_tests, e) in
      subst (λ v. is_taken_word after v ≡ is_taken_word cells v) (sym q) (word_taken ∙ sym taken)
  same_by w false e taken = word_same w (λ same. let no : nat_eq w (place / 2) ≡ true = grind (arith, nat_tests, same) in cc (no, e))

  pub words_same : is_taken_word cells (place / 2) ≡ true → words_taken after ≡ words_taken cells
  unfolding words_taken part_words
  words_same taken = count_same (is_taken_word cells) (is_taken_word after) 0 32768 (λ w le. same_by w (nat_eq w (place / 2)) refl taken)

pub words_most : (cells : List (Option Content)) → words_taken cells ≤ 32768
unfolding words_taken part_words
words_most cells = count_le (is_taken_word cells) 0 32768

pub count_none : (f : ℕ → Bool) (from n : ℕ) → ((w : ℕ) → f w ≡ false) → count_from f from n ≡ 0
count_none f from zero free = refl
count_none f from (suc n) free = omega (arith, ap one_if (free from), count_none f (from + 1) n free)

pub none_taken : (cells : List (Option Content)) → ((p : ℕ) → cell cells p ≡ None) → words_taken cells ≡ 0
unfolding words_taken part_words
none_taken cells free =
    count_none (is_taken_word cells) 0 32768 (λ w. rw (free (2 * w), free (2 * w + 1)) refl)
