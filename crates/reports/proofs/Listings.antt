-- The lines of a listing, one after the other.
use Rattle.std.proofs.Common.{◌≡◌, ℕ, zero, suc, ◌+◌, ◌-◌, ◌*◌, ◌/◌, ◌%◌, ◌<◌, ◌≤◌, List, [], ◌∷◌, ◌++◌, length, min, take, take_all, drop, get_or, refl, sym}
use Rattle.std.proofs.Common.{ap, ◌∙◌, append_assoc, append-nil, drop-drop, length-drop, arith}
use Rattle.std.specs.Prelude.{codes}
use Rattle.bench_io.specs.Stream.{SinkState}
use Rattle.bench_io.specs.Written.{Wrote, Missed}
use Rattle.bench_io.proofs.Writes.{wrote_more, missed_more, missed_early}
use Rattle.source_defs.specs.Digits.{hex_byte}
use Rattle.tms_defs.specs.Words.{join, words_of_bytes}
use Rattle.instruction_defs.specs.Printed.{printed}
use Rattle.instruction_defs.proofs.Windows.{count_within}
use Rattle.word_listings.specs.Listing.{listing_line, lines_from, word_lines, odd_byte_lines}

abbrev nothing : List ℕ
nothing = []

drop_none : (n : ℕ) → drop n nothing ≡ nothing
drop_none zero = refl
drop_none (suc n) = refl

-- two bytes fewer are one word less
pub words_after : (n : ℕ) (bytes : List ℕ) → words_of_bytes (drop (2 * n) bytes) ≡ drop n (words_of_bytes bytes)
words_after zero bytes = refl
words_after (suc n) [] = ap words_of_bytes (drop_none (2 * suc n)) ∙ sym (drop_none (suc n))
words_after (suc n) (a ∷ []) =
    let e : 2 * suc n ≡ suc (suc (2 * n)) = omega arith in
    rw e (ap words_of_bytes (drop_none (suc (2 * n))) ∙ sym (drop_none (suc n)))
words_after (suc n) (a ∷ b ∷ rest) =
    let e : 2 * suc n ≡ suc (suc (2 * n)) = omega arith in
    rw e (words_after n rest)

pub words_length : (bytes : List ℕ) → length (words_of_bytes bytes) ≡ length bytes / 2
words_length [] = refl
words_length (a ∷ []) = refl
words_length (a ∷ b ∷ rest) = let e = words_length rest in omega arith

-- the word with a number
pub word_of : (number : ℕ) (bytes : List ℕ) → 2 * number + 1 < length bytes → get_or (words_of_bytes bytes) number 0 ≡ join (get_or bytes (2 * number) 0) (get_or bytes (2 * number + 1) 0)
word_of number [] lt = absurd (omega arith)
word_of number (a ∷ []) lt = absurd (omega arith)
word_of zero (a ∷ b ∷ rest) lt = refl
word_of (suc n) (a ∷ b ∷ rest) lt =
    let e : 2 * suc n ≡ suc (suc (2 * n)) = omega arith in
    let f : 2 * suc n + 1 ≡ suc (suc (2 * n + 1)) = omega arith in
    rw (f, e) (word_of n rest (omega arith))

-- there is no word after them
pub no_word : (number : ℕ) (bytes : List ℕ) → length bytes ≤ 2 * number + 1 → get_or (words_of_bytes bytes) number 0 ≡ 0
no_word number [] le = refl
no_word number (a ∷ []) le = refl
no_word zero (a ∷ b ∷ rest) le = absurd (omega arith)
no_word (suc n) (a ∷ b ∷ rest) le = no_word n rest (omega arith)

-- the first three words, of which there may be fewer
front_three : (words : List ℕ) → take (min (length words) 3) (get_or words 0 0 ∷ get_or words 1 0 ∷ get_or words 2 0 ∷ []) ≡ take 3 words
front_three [] = refl
front_three (a ∷ []) = refl
front_three (a ∷ b ∷ []) = refl
front_three (a ∷ b ∷ c ∷ rest) = let e : min (length (a ∷ b ∷ c ∷ rest)) 3 ≡ 3 = omega arith in rw e refl

pub three_words : (bytes : List ℕ) (count a b c : ℕ) → count ≡ min (length bytes / 2) 3 → a ≡ get_or (words_of_bytes bytes) 0 0 → b ≡ get_or (words_of_bytes bytes) 1 0 → c ≡ get_or (words_of_bytes bytes) 2 0 → take count (a ∷ b ∷ c ∷ []) ≡ take 3 (words_of_bytes bytes)
three_words bytes count a b c is p q r = rw (is, p, q, r, ← words_length bytes) (front_three (words_of_bytes bytes))

-- a greater number of lines at most makes no others
enough : (most more at : ℕ) (words : List ℕ) → length words ≤ most → most ≤ more → lines_from more at words ≡ lines_from most at words
enough zero zero at words few le = refl
enough zero (suc more) at [] few le = refl
enough zero (suc more) at (word ∷ words) few le = absurd (omega (arith, few))
enough (suc most) zero at words few le = absurd (omega (arith, le))
enough (suc most) (suc more) at [] few le = refl
enough (suc most) (suc more) at (word ∷ words) few le =
    let front = printed (word ∷ words) at in
    let some = (count_within word words at).0 in
    let left = length-drop front.count (word ∷ words) in
    ap (λ lines. listing_line front.text ∷ lines)
    (enough most more (at + 2 * front.count) (drop front.count (word ∷ words)) (omega (arith, few, some, left)) (omega (arith, le)))

-- the line of the instruction at the front of some words, and then the lines of those after it
front_words : (at word : ℕ) (words : List ℕ) → let front = printed (word ∷ words) at in word_lines at (word ∷ words) ≡ listing_line front.text ∷ word_lines (at + 2 * front.count) (drop front.count (word ∷ words))
front_words at word words =
    let front = printed (word ∷ words) at in
    let rest = drop front.count (word ∷ words) in
    let some = (count_within word words at).0 in
    let left = length-drop front.count (word ∷ words) in
    ap (λ lines. listing_line front.text ∷ lines)
    (enough (length rest) (length words) (at + 2 * front.count) rest (omega arith) (omega (arith, some, left)))

-- the same of the words that bytes hold
pub front_bytes : (at : ℕ) (bytes : List ℕ) → 1 < length bytes → let front = printed (words_of_bytes bytes) at in word_lines at (words_of_bytes bytes) ≡ listing_line front.text ∷ word_lines (at + 2 * front.count) (words_of_bytes (drop (2 * front.count) bytes))
front_bytes at [] some = absurd (omega arith)
front_bytes at (a ∷ []) some = absurd (omega arith)
front_bytes at (a ∷ b ∷ rest) some =
    let front = printed (words_of_bytes (a ∷ b ∷ rest)) at in
    front_words at (join a b) (words_of_bytes rest)
    ∙ ap (λ words. listing_line front.text ∷ word_lines (at + 2 * front.count) words) (sym (words_after front.count (a ∷ b ∷ rest)))

-- an instruction has one word at least, and no byte that is not there
pub front_count : (at : ℕ) (bytes : List ℕ) → 1 < length bytes → let front = printed (words_of_bytes bytes) at in 1 ≤ front.count × 2 * front.count ≤ length bytes
front_count at [] some = absurd (omega arith)
front_count at (a ∷ []) some = absurd (omega arith)
front_count at (a ∷ b ∷ rest) some =
    let within = count_within (join a b) (words_of_bytes rest) at in
    (within.0, omega (arith, within.1, words_length (a ∷ b ∷ rest)))

-- the lines up to a place were written, and the others are those of the bytes from there on
pub record Listed (at : ℕ) (bytes : List ℕ) (place : ℕ) (before after : SinkState) : Type 0 where
  pub lines : List (List ℕ)
  pub wrote : Wrote before after lines
  pub rest : word_lines at (words_of_bytes bytes) ≡ lines ++ word_lines (at + place) (words_of_bytes (drop place bytes))

-- the rest of the lines begin with the line of the instruction at the place
next_line : (at place : ℕ) (bytes : List ℕ) → place + 1 < length bytes → let front = printed (words_of_bytes (drop place bytes)) (at + place) in word_lines (at + place) (words_of_bytes (drop place bytes)) ≡ listing_line front.text ∷ word_lines (at + (place + 2 * front.count)) (words_of_bytes (drop (place + 2 * front.count) bytes))
next_line at place bytes some =
    let front = printed (words_of_bytes (drop place bytes)) (at + place) in
    front_bytes (at + place) (drop place bytes) (omega (arith, length-drop place bytes))
    ∙ ap (λ a. listing_line front.text ∷ word_lines a (words_of_bytes (drop (2 * front.count) (drop place bytes)))) (omega arith)
    ∙ ap (λ bytes. listing_line front.text ∷ word_lines (at + (place + 2 * front.count)) (words_of_bytes bytes)) (drop-drop (2 * front.count) place bytes)

pub listed_more : (at place count : ℕ) (bytes : List ℕ) (a b c : SinkState) → place + 1 < length bytes → let front = printed (words_of_bytes (drop place bytes)) (at + place) in count ≡ front.count → Listed at bytes place a b → Wrote b c (listing_line front.text ∷ []) → Listed at bytes (place + 2 * count) a c
listed_more at place count bytes a b c some is listed wrote =
    let front = printed (words_of_bytes (drop place bytes)) (at + place) in
    rw is
    (record {
      lines = listed.lines ++ (listing_line front.text ∷ []);
      wrote = wrote_more a b c listed.lines (listing_line front.text ∷ []) listed.wrote wrote;
      rest = listed.rest ∙ (ap (λ lines. listed.lines ++ lines) (next_line at place bytes some)
          ∙ sym (append_assoc listed.lines (listing_line front.text ∷ []) _));
    })

-- the line at the place could not be written
pub listed_missed : (at place : ℕ) (bytes : List ℕ) (a b c : SinkState) → place + 1 < length bytes → let front = printed (words_of_bytes (drop place bytes)) (at + place) in Listed at bytes place a b → Missed b c (listing_line front.text ∷ []) → Missed a c (word_lines at (words_of_bytes bytes))
listed_missed at place bytes a b c some listed missed =
    let front = printed (words_of_bytes (drop place bytes)) (at + place) in
    let all = listed.rest ∙ ap (λ lines. listed.lines ++ lines) (next_line at place bytes some) in
    rw all
    (missed_more a b c listed.lines (listing_line front.text ∷ word_lines (at + (place + 2 * front.count)) (words_of_bytes (drop (place + 2 * front.count) bytes))) listed.wrote
    (missed_early b c (listing_line front.text ∷ []) (word_lines (at + (place + 2 * front.count)) (words_of_bytes (drop (place + 2 * front.count) bytes))) missed))

few_words : (at : ℕ) (bytes : List ℕ) → length bytes ≤ 1 → word_lines at (words_of_bytes bytes) ≡ []
few_words at [] few = refl
few_words at (a ∷ []) few = refl
few_words at (a ∷ b ∷ rest) few = absurd (omega arith)

-- no word is left
pub listed_all : (at place : ℕ) (bytes : List ℕ) (a b : SinkState) → length bytes ≤ place + 1 → Listed at bytes place a b → Wrote a b (word_lines at (words_of_bytes bytes))
listed_all at place bytes a b few listed =
    let none = few_words (at + place) (drop place bytes) (omega (arith, length-drop place bytes)) in
    let all = listed.rest ∙ (ap (λ lines. listed.lines ++ lines) none ∙ append-nil listed.lines) in
    rw all listed.wrote

-- a last odd byte has a line of its own
pub odd_none : (bytes : List ℕ) → length bytes % 2 ≡ 0 → odd_byte_lines bytes ≡ []
odd_none [] even = refl
odd_none (a ∷ []) even = absurd (omega arith)
odd_none (a ∷ b ∷ rest) even = odd_none rest (omega arith)

pub odd_last : (bytes : List ℕ) → length bytes % 2 ≡ 1 → odd_byte_lines bytes ≡ listing_line (codes "BYTE " ++ hex_byte (get_or bytes (length bytes - 1) 0)) ∷ []
odd_last [] odd = absurd (omega arith)
odd_last (a ∷ []) odd = refl
odd_last (a ∷ b ∷ rest) odd =
    let e : length (a ∷ b ∷ rest) - 1 ≡ suc (suc (length rest - 1)) = omega arith in
    rw e (odd_last rest (omega arith))

-- the place goes on, and not past the end
pub place_count : (at place count : ℕ) (bytes : List ℕ) → place + 1 < length bytes → count ≡ (printed (words_of_bytes (drop place bytes)) (at + place)).count → place < place + 2 * count × place + 2 * count ≤ length bytes
place_count at place number bytes some is =
    let count = front_count (at + place) (drop place bytes) (omega (arith, length-drop place bytes)) in
    (omega (arith, is, count.0), omega (arith, is, count.1, length-drop place bytes))

-- the bytes from a place to the end
pub rest_taken : (place : ℕ) (bytes : List ℕ) → take (length bytes - place) (drop place bytes) ≡ drop place bytes
rest_taken place bytes = take_all (length bytes - place) (drop place bytes) (omega (arith, length-drop place bytes))
