-- Facts about numbers that the pieces need.
use Rattle.std.proofs.Common.{ℕ, ◌%◌, ◌&&◌, ◌*◌, ◌+◌, ◌-◌, ◌/◌, ◌<◌, ◌==◌, ◌≡◌, ◌≤◌, ◌||◌, ap, arith, Bool, nat_lt, not}
use Rattle.std.proofs.lemmas.Bool.{eq-eqb, le-leb, lt-leb, lt-ltb}
use Rattle.std.proofs.lemmas.Bool.Decides.{nat_tests}
use Rattle.sim_view.proofs.Common.{Code, spot}
use Rattle.sim_rows.specs.Pieces.{first_entry, first_row}
use Rattle.sim_rows.specs.Prelude.{even, plus, TABLE, WORKSPACE}
use Rattle.sim_view.specs.native_interp.declared.addresses.TheConstants.{BEHIND, OPTAB, ORIGIN, WORD_COUNT}

-- a word of the interpreter at an address
pub spot_code : (address number : ℕ) → address ≡ ORIGIN + 2 * number → number < WORD_COUNT → spot address ≡ Code number
spot_code address number e h =
    rw (
      lt-leb WORKSPACE address (omega arith),
      le-leb ORIGIN address (omega arith),
      lt-ltb address BEHIND (omega arith),
      eq-eqb (address % 2) 0
          (omega arith),
      spot,
    ) (ap Code (omega arith))

-- the first table's word for a code byte
pub spot_table : (code : ℕ) → code < 256 → spot (even (plus TABLE ((code + code) % 65536))) ≡ Code (first_entry + code)
spot_table code h = spot_code (even (plus TABLE ((code + code) % 65536))) (first_entry + code) (omega arith) (omega arith)

-- the second table's word
pub spot_rows : (code : ℕ) → 0x80 ≤ code → code < 0xEC → spot (even (plus (OPTAB - 0x80) code)) ≡ Code (first_row + (code - 0x80) / 2)
spot_rows code l h = spot_code (even (plus (OPTAB - 0x80) code)) (first_row + (code - 0x80) / 2) (omega arith) (omega arith)

-- below a limit
pub not_above : (limit number : ℕ) (below : Bool) → nat_lt number limit ≡ below → (not (nat_lt limit number) && not (number == limit)) ≡ below
not_above limit number below c = grind (arith, nat_tests)

-- from a limit on
pub from_limit : (limit number : ℕ) (below : Bool) → nat_lt number limit ≡ below → (nat_lt limit number || (number == limit)) ≡ not below
from_limit limit number below c = grind (arith, nat_tests)
