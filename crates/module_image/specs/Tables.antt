-- What the code keeps of the bytes of a part: a cell for each place.
use Rattle.std.specs.Prelude.{ℕ, ◌+◌, ◌*◌, Bool, ◌||◌, List, [], ◌∷◌, slice_index_or, slice_set, is_some, Option, Some}
use Rattle.std.specs.Prelude.{None}
use Rattle.asm_defs.specs.declared.content.Content.{Content}
use Rattle.asm_defs.specs.Memory.{count_from, part_words}

-- what is in a cell
abbrev pub cell : List (Option Content) → ℕ → Option Content
cell cells p = slice_index_or cells p None

-- the cells after some bytes, of which the first is put at a place
abbrev pub put_from : List (Option Content) → ℕ → List Content → List (Option Content)
put_from cells at [] = cells
put_from cells at (content ∷ contents) = put_from (slice_set cells at (Some content)) (at + 1) contents

abbrev pub is_taken : List (Option Content) → ℕ → Bool
is_taken cells p = is_some (cell cells p)

abbrev pub is_taken_word : List (Option Content) → ℕ → Bool
is_taken_word cells w = is_taken cells (2 * w) || is_taken cells (2 * w + 1)

-- how many words have a byte
unfoldable pub words_taken : List (Option Content) → ℕ
words_taken cells = count_from (is_taken_word cells) 0 part_words
