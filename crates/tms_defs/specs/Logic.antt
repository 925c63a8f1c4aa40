-- The results of the operations that work bit by bit; L>, A> and EQ are set by the result, as `by_result` says.
use Rattle.std.specs.Prelude.{ℕ, ◌-◌, ◌==◌, bit_and, bit_or, bit_xor}
use Rattle.tms_defs.specs.declared.flags.Flags.{Flags}
use Rattle.tms_defs.specs.Words.{high, low, join}
use Rattle.tms_defs.specs.Flags.{Width, modulus}

-- Every bit is inverted. TMS9900 data manual, "Invert".
abbrev pub complement_of : Width → ℕ → ℕ
complement_of width number = modulus width - 1 - number

-- The ones of the source are set in the destination.
-- TMS9900 data manual, "Set ones corresponding", "Set ones corresponding bytes", "OR immediate".
abbrev pub ones_set : ℕ → ℕ → ℕ
ones_set destination source = bit_or destination source

-- The ones of the source are cleared in the destination.
-- TMS9900 data manual, "Set zeros corresponding", "Set zeros corresponding bytes".
abbrev pub ones_cleared : Width → ℕ → ℕ → ℕ
ones_cleared width destination source = bit_and destination (complement_of width source)

-- TMS9900 data manual, "AND immediate".
abbrev pub conjunction_of : ℕ → ℕ → ℕ
conjunction_of destination source = bit_and destination source

-- TMS9900 data manual, "Exclusive OR".
abbrev pub exclusive_or_of : ℕ → ℕ → ℕ
exclusive_or_of destination source = bit_xor destination source

-- The bytes of a word change places; no status bit is set. TMS9900 data manual, "Swap bytes".
abbrev pub swapped : ℕ → ℕ
swapped word = join (low word) (high word)

-- EQ where every one of the source is a one in the register; the others stay.
-- TMS9900 data manual, "Compare ones corresponding".
abbrev pub by_ones : ℕ → ℕ → Flags → Flags
by_ones register source flags = record flags { eq = bit_and source register == source }

-- EQ where every one of the source is a zero in the register; the others stay.
-- TMS9900 data manual, "Compare zeros corresponding".
abbrev pub by_zeros : ℕ → ℕ → Flags → Flags
by_zeros register source flags = record flags { eq = bit_and source register == 0 }
