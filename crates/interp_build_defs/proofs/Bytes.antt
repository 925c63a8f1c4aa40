-- Words in lists of bytes.
use Rattle.std.proofs.Common.{◌≡◌, ◌≢◌, ◌<◌, ℕ, ◌+◌, List, length, slice_index, slice_set, ap₂, ◌∙◌, arith}
use Rattle.std.proofs.Common.{length-set, get_or-set_same, get_or-set_other}
use Rattle.tms_defs.specs.Words.{high, low, join}
use Rattle.tms_defs.proofs.WordLaws.{join-high-low}
use Rattle.tms_defs.specs.Bytes.{word_in, with_word_in}

-- a word that is put keeps the length
pub length_with : (bytes : List ℕ) (at word : ℕ) → length (with_word_in bytes at word) ≡ length bytes
length_with bytes at word =
    length-set (slice_set bytes at (high word)) (at + 1) (low word) ∙ length-set bytes at (high word)

-- and each other byte
pub other_byte : (bytes : List ℕ) (at word place : ℕ) → place ≢ at → place ≢ at + 1
    → slice_index (with_word_in bytes at word) place ≡ slice_index bytes place
other_byte bytes at word place one two =
    get_or-set_other (slice_set bytes at (high word)) (at + 1) place (low word) 0 two
    ∙ get_or-set_other bytes at place (high word) 0 one

-- the word that is put is read again
pub same_word : (bytes : List ℕ) (at word : ℕ) → at + 1 < length bytes → word_in (with_word_in bytes at word) at ≡ word
same_word bytes at word inside =
    let marked : List ℕ = slice_set bytes at (high word) in
    let apart : at ≢ at + 1 = omega arith in
    let here : at < length bytes = omega arith in
    let long : at + 1 < length marked = omega (arith, length-set bytes at (high word)) in
    let first : slice_index (with_word_in bytes at word) at ≡ high word =
    get_or-set_other marked (at + 1) at (low word) 0 apart ∙ get_or-set_same bytes at (high word) 0 here in
    let second : slice_index (with_word_in bytes at word) (at + 1) ≡ low word =
    get_or-set_same marked (at + 1) (low word) 0 long in
    ap₂ join first second ∙ join-high-low word

-- and a word that is apart from it
pub other_word : (bytes : List ℕ) (at word place : ℕ) → place ≢ at → place ≢ at + 1 → place + 1 ≢ at
    → word_in (with_word_in bytes at word) place ≡ word_in bytes place
other_word bytes at word place one two three =
    let four : place + 1 ≢ at + 1 = omega arith in
    ap₂ join (other_byte bytes at word place one two) (other_byte bytes at word (place + 1) three four)
