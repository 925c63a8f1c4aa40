-- How long a listing is.
use Rattle.std.proofs.Common.{◌≡◌, ℕ, suc, ◌+◌, ◌*◌, ◌%◌, ◌≤◌, List, [], ◌∷◌, ◌++◌, length, length-append, length-drop, drop, refl, arith}
use Rattle.std.specs.Prelude.{codes}
use Rattle.std.specs.List.{concat}
use Rattle.source_defs.specs.Digits.{hex_word, word_digits, byte_digits}
use Rattle.source_defs.specs.ListedLines.{listing_line}
use Rattle.instruction_defs.specs.Printed.{printed}
use Rattle.word_listings.specs.Listing.{memory_listing, lines_from, word_lines, odd_byte_lines}
use Rattle.word_listings.specs.Law.{entered_listing, WordListingsAreShort}
use Rattle.word_listings.proofs.Instructions.{AreWords}
use Rattle.word_listings.proofs.LineBacks.{words_back}
use Rattle.word_listings.proofs.After.{drop_words}
use Rattle.word_listings.proofs.ListingLaw.{are_words, words_fit}
use Rattle.tms_defs.specs.Words.{words_of_bytes}

concat_both : (xs ys : List (List ℕ)) → length (concat (xs ++ ys)) ≡ length (concat xs) + length (concat ys)
concat_both [] ys = omega arith
concat_both (x ∷ xs) ys =
    let rest = concat_both xs ys in
    let here = length-append x (concat (xs ++ ys)) in
    let there = length-append x (concat xs) in
    omega (arith, rest, here, there)

line_size : (text : List ℕ) → length (listing_line text) ≡ 8 + length text
line_size text = let l = length-append text (codes "\n") in omega (arith, l)

lines_short : (most : ℕ) (words : List ℕ) (at : ℕ) → at % 2 ≡ 0 → at + 2 * length words ≤ 65536 → AreWords words
    → length (concat (lines_from most at words)) ≤ 26 * length words
lines_short (suc most) (word ∷ words) at even below are =
    let back = words_back at (omega (arith, below)) even word words are in
    let within = back.1.within in
    let short = back.1.short in
    let size = line_size (printed (word ∷ words) at).text in
    let count = (printed (word ∷ words) at).count in
    let after = drop count (word ∷ words) in
    let left = length-drop count (word ∷ words) in
    let rest = lines_short most after (at + 2 * count) (omega (arith, even)) (omega (arith, below, left, within)) (drop_words count (word ∷ words) are) in
    let all = length-append (listing_line (printed (word ∷ words) at).text) (concat (lines_from most (at + 2 * count) after)) in
    omega (arith, left, within, short, size, rest, all)
lines_short _ _ at even below are = omega arith

odd_short : (bytes : List ℕ) → length (concat (odd_byte_lines bytes)) ≤ 16
unfolding byte_digits
odd_short (more ∷ less ∷ rest) = odd_short rest
odd_short _ = omega arith

first_short : (at : ℕ) → length (listing_line (codes "AORG " ++ hex_word at)) ≡ 18
unfolding word_digits
first_short at = refl

pub word_listings_are_short : WordListingsAreShort
unfolding memory_listing
word_listings_are_short at bytes after_these =
    let even = after_these.even in
    let within = after_these.within in
    let fit = words_fit bytes in
    let words =
    lines_short (length (words_of_bytes bytes)) (words_of_bytes bytes) at even (omega (arith, within, fit)) (are_words bytes after_these.holds.fits) in
    let odd = odd_short bytes in
    let first = first_short at in
    let last = concat_both (odd_byte_lines bytes) (listing_line (codes "END") ∷ []) in
    let rest = concat_both (word_lines at (words_of_bytes bytes)) (odd_byte_lines bytes ++ listing_line (codes "END") ∷ []) in
    let all = length-append (listing_line (codes "AORG " ++ hex_word at)) (concat (word_lines at (words_of_bytes bytes) ++ (odd_byte_lines bytes ++ listing_line (codes "END") ∷ []))) in
    omega (arith, words, odd, first, last, rest, all)

-- an entry after END has six bytes
pub entered_size : (at : ℕ) (bytes : List ℕ) (entry : ℕ) →
    length (concat (entered_listing at bytes entry)) ≡ length (concat (memory_listing at bytes)) + 6
unfolding memory_listing word_digits
entered_size at bytes entry =
    let size : (end : List ℕ) → length (concat (word_lines at (words_of_bytes bytes) ++ (odd_byte_lines bytes ++ end ∷ [])))
    ≡ length (concat (word_lines at (words_of_bytes bytes))) + (length (concat (odd_byte_lines bytes)) + length end) =
    λ end. (let last = concat_both (odd_byte_lines bytes) (end ∷ []) in
    let rest = concat_both (word_lines at (words_of_bytes bytes)) (odd_byte_lines bytes ++ end ∷ []) in
    let one = length-append end [] in
    omega (arith, last, rest, one)) in
    let plain = size (listing_line (codes "END")) in
    let entered = size (listing_line (codes "END " ++ hex_word entry)) in
    let first = listing_line (codes "AORG " ++ hex_word at) in
    let all = length-append first
    (concat (word_lines at (words_of_bytes bytes) ++ (odd_byte_lines bytes ++ listing_line (codes "END") ∷ []))) in
    let whole = length-append first (concat
    (word_lines at (words_of_bytes bytes) ++ (odd_byte_lines bytes ++ listing_line (codes "END " ++ hex_word entry) ∷ []))) in
    omega (arith, plain, entered, all, whole)
