-- The listing of linked memory.
use Rattle.std.specs.Prelude.{ℕ, zero, suc, ◌+◌, ◌==◌, if◌then◌else◌, List, [], ◌∷◌, ◌++◌, length, take}
use Rattle.std.specs.Prelude.{drop, map, codes}
use Rattle.std.specs.List.{flat_map}
use Rattle.std.specs.FinMap.{entries}
use Rattle.source_defs.specs.Digits.{word_digits, hex_word}
use Rattle.link_defs.specs.LinkedMemory.{LinkedMemory}

-- Profile: a listing of memory begins with the entry, and then has each name with its value, in order.
abbrev pub entry_line : ℕ → List ℕ
entry_line entry = codes "entry " ++ (hex_word entry ++ codes "\n")

abbrev pub name_line : List ℕ × ℕ → List ℕ
name_line named = named.0 ++ (0x20 ∷ (hex_word named.1 ++ codes "\n"))

-- up to how many words in front are at an address and at those that follow it
abbrev pub following : ℕ → ℕ → List (ℕ × ℕ) → ℕ
following zero at words = 0
following (suc most) at [] = 0
following (suc most) at (word ∷ words) = if word.0 == at then following most (at + 2) words + 1 else 0

-- a word of a row, after a blank
abbrev pub word_text : ℕ × ℕ → List ℕ
word_text word = 0x20 ∷ word_digits word.1

-- a row: the address of its first word, and its words
abbrev pub words_line : List (ℕ × ℕ) → List ℕ
words_line [] = []
words_line (word ∷ words) = hex_word word.0 ++ (flat_map word_text (word ∷ words) ++ codes "\n")

-- Profile: then stand the words in order of address, up to eight a row; a new row begins where eight stand or the next
-- address does not follow. These are at most a number of rows: that of the words in front, and then those of the words
-- after them.
abbrev pub rows_from : ℕ → List (ℕ × ℕ) → List (List ℕ)
rows_from zero words = []
rows_from (suc most) [] = []
rows_from (suc most) (word ∷ words) =
    let more = following 7 (word.0 + 2) words in
    words_line (word ∷ take more words) ∷ rows_from most (drop more words)

-- the rows of words
abbrev pub word_rows : List (ℕ × ℕ) → List (List ℕ)
word_rows words = rows_from (length words) words

unfoldable pub linked_lines : LinkedMemory → List (List ℕ)
linked_lines linked =
    entry_line linked.entry ∷ (map name_line linked.names ++ word_rows (entries linked.words))
