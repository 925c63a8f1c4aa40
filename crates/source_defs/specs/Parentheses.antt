-- A text that ends in parentheses, in which an index stands. Editor/Assembler manual, "Addressing Modes".
use Rattle.std.specs.Prelude.{ℕ, ◌-◌, ◌==◌, Bool, not, ◌&&◌, nat_lt, List, length, slice_index}
use Rattle.source_defs.specs.Least.{least_place}
use Rattle.source_defs.specs.Fields.{in_quotes}

-- the place of the last byte of a text
abbrev pub last_place : List ℕ → ℕ
last_place text = length text - 1

-- a parenthesis outside quotes is at a place
abbrev pub opens_at : List ℕ → ℕ → Bool
opens_at text k = (slice_index text k == 0x28) && not (in_quotes text 0 k)

abbrev pub closes_at : List ℕ → ℕ → Bool
closes_at text k = (slice_index text k == 0x29) && not (in_quotes text 0 k)

-- the first parenthesis that opens outside quotes, or the text's end
abbrev pub opening : List ℕ → ℕ
opening text = least_place (opens_at text) text 0

-- the text ends with a parenthesis that closes, and one that opens is before it
abbrev pub has_parentheses : List ℕ → Bool
has_parentheses text = closes_at text (last_place text) && nat_lt (opening text) (length text)
