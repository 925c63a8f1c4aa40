-- Facts about numbers that the pieces need.
use Rattle.std.proofs.Common.{ℕ, ◌&&◌, ◌+◌, ◌<◌, ◌==◌, ◌≡◌, ◌≤◌, ap, arith, Bool, false, if◌then◌else◌, int_lt, nat_lt, not, pos}
use Rattle.std.proofs.Common.{refl, true}
use Rattle.std.proofs.lemmas.Bool.{agree_below_at, le-leb, le-ltb, lt-leb, lt-ltb, ltb-false}
use Rattle.std.proofs.lemmas.Bool.Decides.{nat_tests}
use Rattle.sim_view.proofs.Common.{Byte, Cell, join, shifted, signed, size_of, spot, SRL, Word, WORKSPACE}
use Rattle.sim_operands.specs.Values.{IsVisible}
use Rattle.sim_view.specs.native_interp.declared.addresses.TheConstants.{BEHIND, ORIGIN}

-- a byte that comes down
pub down : (byte less : ℕ) → byte < 256 → less < 256 → shifted SRL (join byte less) 8 ≡ byte
down byte less h k = omega arith

-- a visible cell at an address
pub spot_cell : (address offset : ℕ) → address ≡ 0x8300 + offset → offset < 194 → spot address ≡ Cell offset
spot_cell address offset e h =
    rw (
      lt-leb WORKSPACE address (omega arith),
      le-leb ORIGIN address (omega arith),
      le-ltb address BEHIND (omega arith),
      le-leb 0x8300 address
          (omega arith),
      lt-ltb address 0x83C2 (omega arith),
      spot,
    ) (ap Cell (omega arith))

-- what is above a limit is not the limit
pub not_limit : (limit number : ℕ) → nat_lt limit number ≡ true → (number == limit) ≡ false
not_limit limit number above = grind (arith, nat_tests)

pub at_most : (limit number : ℕ) → nat_lt limit number ≡ false → number ≤ limit
at_most limit number below = ltb-false limit number below

-- a byte is one
pub byte_is : (byte : ℕ) → byte < 256 → nat_lt byte 256 ≡ true
byte_is byte h = lt-ltb byte 256 h

-- the sign of a byte
abbrev pub is_negative : ℕ → Bool
is_negative byte = not (int_lt (pos 0) (signed Byte byte)) && not (byte == 0)

abbrev from_half : ℕ → Bool
from_half byte = not (nat_lt byte 0x80)

pub negative : (byte : ℕ) → byte < 256 → is_negative byte ≡ not (nat_lt byte 0x80)
negative byte h = agree_below_at is_negative from_half 256 byte refl h

pub not_both : (b : Bool) → b ≡ true → b ≡ false → ⊥
not_both b e f = cc

-- the space of the cells is the one that is neither of the others
pub no_other : (space : ℕ) → (space == 1) ≡ false → nat_lt 1 space ≡ false → space ≡ 0
no_other space one more = grind (arith, nat_tests)

pub not_cells : (space : ℕ) → (space == 1) ≡ true → (space == 0) ≡ false
not_cells space c = grind (arith, nat_tests)

pub not_above_one : (space : ℕ) → (space == 1) ≡ true → nat_lt 1 space ≡ false
not_above_one space c = grind (arith, nat_tests)

pub above_cells : (space : ℕ) → nat_lt 1 space ≡ true → (space == 0) ≡ false
above_cells space d = grind (arith, nat_tests)

-- the cells of a visible place
pub first_fits : (space offset width : ℕ) → IsVisible space offset width → space ≡ 0 → offset < 194
first_fits space offset width h z = by (width == 1) (h z)
  where
    by : (b : Bool) → offset + size_of (if b then Byte else Word) ≤ 0xC2 → offset < 194
    by true le = omega arith
    by false le = omega arith

pub second_fits : (space offset width : ℕ) → IsVisible space offset width → space ≡ 0 → (width == 1) ≡ false → offset + 1 < 194
second_fits space offset width h z e = let le : offset + size_of (if width == 1 then Byte else Word) ≤ 0xC2 = h z in let two : offset + 2 ≤ 0xC2 =
    rw e at le in omega arith
