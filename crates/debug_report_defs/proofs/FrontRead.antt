-- The fronts of lines are found and read.
use Rattle.std.proofs.Common.{◌≡◌, ℕ, zero, suc, ◌-◌, ◌/◌, ◌%◌, ◌^◌, ◌<◌, true, false, nat_eq, List, [], ◌∷◌, ◌++◌}
use Rattle.std.proofs.Common.{length, replicate, refl, ap, ◌∙◌, append_assoc, arith}
use Rattle.std.specs.Prelude.{◌==◌, codes, drop}
use Rattle.std.specs.List.{list_all}
use Rattle.std.specs.Fmt.{decimal, digits, digits_onto, digit_glyph}
use Rattle.source_defs.specs.Digits.{word_digits, byte_digits, hex_word}
use Rattle.source_defs.specs.Digits.{right_in}
use Rattle.listed_lines.proofs.Scans.{all_both, and_left, and_right, not_true}
use Rattle.debug_report_defs.proofs.Digits.{cond_both, decimal_passes, decimal_back, word_back}
use Rattle.debug_report_defs.specs.LineFronts.{decimal_value, after_blanks, first_word, after_word, number_in, after_number, word_digits_at}
use Rattle.debug_report_defs.proofs.LineSplit.{in_front, in_word}

-- ---- bytes of a front

pub front_all : (xs ys : List ℕ) → list_all in_front xs ≡ true → list_all in_front ys ≡ true → list_all in_front (xs ++ ys) ≡ true
front_all = all_both in_front

blanks_front : (n : ℕ) → list_all in_front (replicate n 0x20) ≡ true
blanks_front zero = refl
blanks_front (suc n) = blanks_front n

pub number_front : (n : ℕ) → list_all in_front (right_in 6 n) ≡ true
unfolding right_in
number_front n = front_all (replicate (6 - length (decimal n)) 0x20) (decimal n) (blanks_front (6 - length (decimal n))) (decimal_passes in_front n refl)

-- ---- a number that blanks are before

pub word_then : (word rest : List ℕ) → list_all in_word word ≡ true → (first_word (word ++ 0x20 ∷ rest) ≡ word) × (after_word (word ++ 0x20 ∷ rest) ≡ rest)
word_then [] rest e = (refl, refl)
word_then (byte ∷ word) rest e =
    let own = not_true (byte == 0x20) (and_left (in_word byte) (list_all in_word word) e) in
    let others = word_then word rest (and_right (in_word byte) (list_all in_word word) e) in
    (rw own (ap (λ l. byte ∷ l) others.0), rw own others.1)

skip_blanks : (n : ℕ) (rest : List ℕ) → after_blanks (replicate n 0x20 ++ rest) ≡ after_blanks rest
skip_blanks zero rest = refl
skip_blanks (suc n) rest = skip_blanks n rest

-- a text that is not empty begins with a word
at_word : (word rest : List ℕ) → 0 < length word → list_all in_word word ≡ true → after_blanks (word ++ rest) ≡ word ++ rest
at_word [] rest some e = absurd (omega arith)
at_word (byte ∷ word) rest some e = rw (not_true (byte == 0x20) (and_left (in_word byte) (list_all in_word word) e)) refl

onto_some : (k n : ℕ) (acc : List ℕ) → 0 < length acc → 0 < length (digits_onto k 10 false n acc)
onto_some zero n acc some = some
onto_some (suc k) n acc some =
    let acc = digit_glyph false (n % 10) ∷ acc in
    cond_both (λ text. 0 < length text) (nat_eq (n / 10) 0) acc _ (omega arith) (onto_some k (n / 10) acc (omega arith))

first_some : (k n : ℕ) → 0 < length (digits_onto (suc k) 10 false n [])
first_some k n =
    let acc = digit_glyph false (n % 10) ∷ [] in
    cond_both (λ text. 0 < length text) (nat_eq (n / 10) 0) acc _ (omega arith) (onto_some k (n / 10) acc (omega arith))

pub decimal_some : (n : ℕ) → 0 < length (decimal n)
unfolding digits
decimal_some n = first_some 63 n

pub number_there : (columns n : ℕ) (rest : List ℕ) → after_blanks (right_in columns n ++ 0x20 ∷ rest) ≡ decimal n ++ 0x20 ∷ rest
unfolding right_in
number_there columns n rest =
    ap after_blanks (append_assoc (replicate (columns - length (decimal n)) 0x20) (decimal n) (0x20 ∷ rest))
    ∙ skip_blanks (columns - length (decimal n)) (decimal n ++ 0x20 ∷ rest)
    ∙ at_word (decimal n) (0x20 ∷ rest) (decimal_some n) (decimal_passes in_word n refl)

pub number_found : (n : ℕ) (rest : List ℕ) → n < 2 ^ 64 → number_in (right_in 6 n ++ 0x20 ∷ rest) ≡ n
number_found n rest lt =
    ap (λ l. decimal_value (first_word l)) (number_there 6 n rest)
    ∙ ap decimal_value (word_then (decimal n) rest (decimal_passes in_word n refl)).0
    ∙ decimal_back n lt

pub rest_found : (columns n : ℕ) (rest : List ℕ) → after_number (right_in columns n ++ 0x20 ∷ rest) ≡ rest
rest_found columns n rest = ap after_word (number_there columns n rest) ∙ (word_then (decimal n) rest (decimal_passes in_word n refl)).1

-- ---- words at their places

abbrev shown_processor : ℕ → ℕ → ℕ → List ℕ → List ℕ
shown_processor pc wp status text =
    (hex_word pc ++ (codes " WP" ++ (word_digits wp ++ (codes " ST" ++ word_digits status)))) ++ (codes " " ++ text)

pub pc_at : (pc wp status : ℕ) (text : List ℕ) → pc < 65536 → word_digits_at 1 (shown_processor pc wp status text) ≡ pc
unfolding word_digits
pc_at pc wp status text lt = word_back pc lt

pub wp_at : (pc wp status : ℕ) (text : List ℕ) → wp < 65536 → word_digits_at 8 (shown_processor pc wp status text) ≡ wp
unfolding word_digits
wp_at pc wp status text lt = word_back wp lt

pub status_at_place : (pc wp status : ℕ) (text : List ℕ) → status < 65536 → word_digits_at 15 (shown_processor pc wp status text) ≡ status
unfolding word_digits
status_at_place pc wp status text lt = word_back status lt

pub text_at : (pc wp status : ℕ) (text : List ℕ) → drop 20 (shown_processor pc wp status text) ≡ text
unfolding word_digits
text_at pc wp status text = refl

abbrev shown_state : ℕ → List ℕ → List ℕ → List ℕ → List ℕ → List ℕ
shown_state pc s d r text =
    (hex_word pc ++ (codes " S" ++ (s ++ (codes " D" ++ (d ++ (codes " R" ++ r)))))) ++ (codes " " ++ text)

pub state_pc_at : (pc s d r : ℕ) (text : List ℕ) → pc < 65536 → word_digits_at 1 (shown_state pc (byte_digits s) (byte_digits d) (byte_digits r) text) ≡ pc
unfolding word_digits
state_pc_at pc s d r text lt = word_back pc lt

pub state_text_at : (pc s d r : ℕ) (text : List ℕ) → drop 18 (shown_state pc (byte_digits s) (byte_digits d) (byte_digits r) text) ≡ text
unfolding word_digits byte_digits
state_text_at pc s d r text = refl
