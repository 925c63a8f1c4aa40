-- The listing of memory, as assembler source.
use Rattle.std.specs.Prelude.{ℕ, zero, suc, ◌+◌, ◌*◌, List, [], ◌∷◌, ◌++◌, length, drop, codes}
use Rattle.source_defs.specs.Digits.{hex_word, hex_byte}
pub use Rattle.source_defs.specs.ListedLines.{listing_line}
use Rattle.tms_defs.specs.Words.{words_of_bytes}
use Rattle.instruction_defs.specs.Printed.{printed}

-- At most a number of lines of words, of which the first word is at an address: the line of the instruction in
-- front, or DATA with a word that is none, and then the lines of the words after it.
abbrev pub lines_from : ℕ → ℕ → List ℕ → List (List ℕ)
lines_from zero at words = []
lines_from (suc most) at [] = []
lines_from (suc most) at words =
    let front = printed words at in
    listing_line front.text ∷ lines_from most (at + 2 * front.count) (drop front.count words)

-- Profile: the lines of words are one an instruction, or one a word that is none.
abbrev pub word_lines : ℕ → List ℕ → List (List ℕ)
word_lines at words = lines_from (length words) at words

-- Profile: a last odd byte is a BYTE line.
abbrev pub odd_byte_lines : List ℕ → List (List ℕ)
odd_byte_lines [] = []
odd_byte_lines (byte ∷ []) = listing_line (codes "BYTE " ++ hex_byte byte) ∷ []
odd_byte_lines (more ∷ less ∷ rest) = odd_byte_lines rest

-- Profile: a listing begins with the address of the first byte and ends with END.
unfoldable pub memory_listing : ℕ → List ℕ → List (List ℕ)
memory_listing at bytes =
    listing_line (codes "AORG " ++ hex_word at)
    ∷ (word_lines at (words_of_bytes bytes) ++ (odd_byte_lines bytes ++ listing_line (codes "END") ∷ []))
