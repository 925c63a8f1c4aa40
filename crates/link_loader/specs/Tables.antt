-- Words by their addresses, as a list that has a place for each address.
use Rattle.std.specs.Prelude.{ℕ, ◌+◌, List, [], ◌∷◌, slice_index_or, Option, Some, None}

-- the word at an address
abbrev pub word_in : List (Option ℕ) → ℕ → Option ℕ
word_in cells at = slice_index_or cells at None

-- the addresses that have a word, each with its word, where the first place is an address
abbrev pub pairs_from : ℕ → List (Option ℕ) → List (ℕ × ℕ)
pairs_from at [] = []
pairs_from at (None ∷ cells) = pairs_from (at + 1) cells
pairs_from at (Some word ∷ cells) = (at, word) ∷ pairs_from (at + 1) cells

-- another word in the place of one
abbrev pub replaced : Option ℕ → Option ℕ → Option ℕ
replaced None other = None
replaced (Some word) None = Some word
replaced (Some word) (Some other) = Some other
