-- Words as numbers.
use Rattle.std.specs.Prelude.{ℕ, ◌+◌, ◌*◌, Bool, false, ◌==◌, nat_le, nat_lt, ◌&&◌, if◌then◌else◌, List, [], ◌∷◌}
use Rattle.std.specs.Prelude.{length, map, find, Option, Some, None}
use Rattle.std.specs.List.{list_all}
use Rattle.std.specs.Option.{option_map}
use Rattle.source_defs.specs.Characters.{upper_case}

-- a word as a number: its first letter is the lowest digit to base 256, and 1 is above its last
abbrev pub key_of : List ℕ → ℕ
key_of [] = 1
key_of (letter ∷ letters) = letter + 256 * key_of letters

-- the number of a text in upper case, where it has at most five characters
abbrev pub word_key : List ℕ → Option ℕ
word_key text = if nat_le (length text) 5 then Some (key_of (map upper_case text)) else None

-- a word of at most five characters
abbrev pub is_short : List ℕ → Bool
is_short word = nat_le (length word) 5 && list_all (λ letter. nat_lt letter 256) word

-- a text is a word, by the text's number
abbrev pub is_of_key : Option ℕ → List ℕ → Bool
is_of_key None word = false
is_of_key (Some key) word = key == key_of word

-- the first of some things in a table that has the number of a text
abbrev pub with_key : {A : Type 0} → Option ℕ → List (ℕ × A) → Option A
with_key None rows = None
with_key (Some key) rows = option_map (λ row. row.1) (find (λ row. key == row.0) rows)
