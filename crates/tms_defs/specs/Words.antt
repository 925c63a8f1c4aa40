-- Words of 16 bits, their bytes, and addresses.
use Rattle.std.specs.Prelude.{ℕ, ◌+◌, ◌*◌, ◌/◌, ◌%◌, List, [], ◌∷◌}

-- The more significant byte of a word; it is at the word's even address.
-- TMS9900 data manual, "Registers and memory".
abbrev pub high : ℕ → ℕ
high word = word / 256

-- The less significant byte of a word; it is at the odd address after it.
-- TMS9900 data manual, "Registers and memory".
abbrev pub low : ℕ → ℕ
low word = word % 256

-- The word of two bytes. TMS9900 data manual, "Registers and memory".
abbrev pub join : ℕ → ℕ → ℕ
join more less = 256 * more + less

-- The address of the word that holds an address: the lowest bit is ignored.
-- TMS9900 data manual, "Registers and memory".
abbrev pub even : ℕ → ℕ
even address = address / 2 * 2

-- A sum of two words, kept to 16 bits, as of a base address and an index.
-- TMS9900 data manual, "Addressing modes".
abbrev pub plus : ℕ → ℕ → ℕ
plus a b = (a + b) % 65536

-- Bytes as words, the high byte of each first; a last odd byte is no word.
abbrev pub words_of_bytes : List ℕ → List ℕ
words_of_bytes [] = []
words_of_bytes (more ∷ []) = []
words_of_bytes (more ∷ less ∷ rest) = join more less ∷ words_of_bytes rest
