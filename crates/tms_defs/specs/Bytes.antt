-- Lists of bytes of a known length.
use Rattle.std.specs.Prelude.{◌≡◌, ◌<◌, ℕ, ◌+◌, List, length, slice_index, slice_set}
use Rattle.tms_defs.specs.Words.{high, low, join}

-- The list has a given number of items, and each is a byte.
pub record HoldsBytes (count : ℕ) (bytes : List ℕ) : Type 0 where
  pub size : length bytes ≡ count
  pub fits : (at : ℕ) → slice_index bytes at < 256

-- The list has a given number of items, and each is 0.
pub record HoldsZeros (count : ℕ) (bytes : List ℕ) : Type 0 where
  pub size : length bytes ≡ count
  pub zeros : (at : ℕ) → slice_index bytes at ≡ 0

-- The word whose high byte is at a place of a list, and whose low byte comes after it.
-- TMS9900 data manual, "Registers and memory".
abbrev pub word_in : List ℕ → ℕ → ℕ
word_in bytes at = join (slice_index bytes at) (slice_index bytes (at + 1))

-- The list with a word at a place, its high byte first.
-- TMS9900 data manual, "Registers and memory".
abbrev pub with_word_in : List ℕ → ℕ → ℕ → List ℕ
with_word_in bytes at word = slice_set (slice_set bytes at (high word)) (at + 1) (low word)
