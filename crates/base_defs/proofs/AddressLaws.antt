-- Laws about the addresses of GROM.
use Rattle.std.proofs.Common.{◌≡◌, ◌<◌, ℕ, ◌/◌, arith}
use Rattle.base_defs.specs.Addresses.{next_in_grom, previous_in_grom}

-- Each is the inverse of the other.
pub previous-next : (address : ℕ) → previous_in_grom (next_in_grom address) ≡ address
previous-next address = omega arith

pub next-previous : (address : ℕ) → next_in_grom (previous_in_grom address) ≡ address
next-previous address = omega arith

-- An address stays in its GROM, and in its 16 bits.
pub grom-next : (address : ℕ) → next_in_grom address / 8192 ≡ address / 8192
grom-next address = omega arith

pub next-fits : (address : ℕ) → address < 65536 → next_in_grom address < 65536
next-fits address fits = omega arith
