-- Laws about words and their bytes.
use Rattle.std.proofs.Common.{◌≡◌, ◌<◌, ℕ, arith}
use Rattle.tms_defs.specs.Words.{high, low, join, even, plus}

-- The bytes of the word of two bytes.
pub high-join : (more less : ℕ) → less < 256 → high (join more less) ≡ more
high-join more less fits = omega arith

pub low-join : (more less : ℕ) → less < 256 → low (join more less) ≡ less
low-join more less fits = omega arith

-- A word is the word of its bytes.
pub join-high-low : (word : ℕ) → join (high word) (low word) ≡ word
join-high-low word = omega arith

-- Bytes and words stay in their ranges.
pub high-fits : (word : ℕ) → word < 65536 → high word < 256
high-fits word fits = omega arith

pub low-fits : (word : ℕ) → low word < 256
low-fits word = omega arith

pub join-fits : (more less : ℕ) → more < 256 → less < 256 → join more less < 65536
join-fits more less first second = omega arith

pub plus-fits : (a b : ℕ) → plus a b < 65536
plus-fits a b = omega arith

-- An even address is its own word's address.
pub even-even : (address : ℕ) → even (even address) ≡ even address
even-even address = omega arith

pub even-plus_two : (address : ℕ) → even address ≡ address → even (plus address 2) ≡ plus address 2
even-plus_two address is_even = omega arith
