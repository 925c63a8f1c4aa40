-- Facts about numbers that MOVE needs.
use Rattle.std.proofs.Common.{ℕ, ◌%◌, ◌*◌, ◌+◌, ◌/◌, ◌<◌, ◌==◌, ◌≡◌, ◌≤◌, ap, arith, Bool, eqb, Err, false, if◌then◌else◌, nat_lt, Ok, refl}
use Rattle.std.proofs.Common.{Result, true}
use Rattle.std.proofs.lemmas.Bool.{agree_below_at, eqb-true, ltb-false}
use Rattle.std.proofs.lemmas.Nat.{and_assoc, and_le_r, and_mask}
use Rattle.std.specs.Int.Bits.{bit_and}
use Rattle.sim_rows.proofs.Common.{conjunction_of, join, last_out, Length, Reason, shifted, SRL, within_limit}
use Rattle.sim_move.specs.Pieces.{form_of}

-- a byte that was read over a cleared register comes down
pub byte_down : (byte : ℕ) → byte < 256 → shifted SRL (join byte 0) 8 ≡ byte
byte_down byte h = omega arith

-- the lowest bit of a code byte
pub odd_bit : (code : ℕ) → last_out SRL code 1 ≡ (code % 2 == 1)
odd_bit code = let n : (65536 * 0 + code) / 1 % 2 ≡ code % 2 = omega arith in ap (λ (k : ℕ). eqb k 1) n

-- the form of a place in video memory, as INDEX takes it from an operand's first byte; an index is there where a code
-- byte says so
abbrev pub form_by : ℕ → ℕ
form_by code = 32 + 64 * (code / 2 % 2)

pub form_is : (code : ℕ) → code < 256 → form_of code ≡ form_by code / 32
form_is code h = eqb-true (form_of code) (form_by code / 32) (agree_below_at (λ c. eqb (form_of c) (form_by c / 32)) (λ _. true) 256 code refl h)

pub form_fits : (code : ℕ) → form_by code < 256
form_fits code = omega arith

pub form_index : (code : ℕ) → (form_by code / 64 % 2 == 1) ≡ (code / 2 % 2 == 1)
form_index code = let n : form_by code / 64 % 2 ≡ code / 2 % 2 = omega arith in ap (λ (k : ℕ). eqb k 1) n

pub form_space : (code : ℕ) → (form_by code / 32 % 2 == 1) ≡ true
form_space code = let n : form_by code / 32 % 2 ≡ 1 = omega arith in ap (λ (k : ℕ). eqb k 1) n

-- Its lowest bit is video memory, whatever the code byte.
pub form_odd : (code : ℕ) → conjunction_of (form_of code) 1 ≡ 1
form_odd code =
    let low = and_mask (bit_and code 2) 1 in
    let swap = and_assoc 1 code 2 in
    let none : bit_and code (bit_and 2 1) ≤ 0 = and_le_r code 0 in
    let odd = and_mask (form_of code) 1 in
    omega arith

number_in : Result ℕ Reason → ℕ
number_in (Ok n) = n
number_in (Err reason) = 0

-- a length within its limit is the one that was checked
pub within_is : (count bytes : ℕ) → within_limit count ≡ Ok bytes → (count ≡ bytes) × (bytes ≤ 16384)
unfolding number_in
within_is count bytes e = by (nat_lt 16384 count) refl e
  where
    by : (b : Bool) → nat_lt 16384 count ≡ b → (if b then Err Length else Ok count) ≡ Ok bytes → (count ≡ bytes) × (bytes ≤ 16384)
    by true c e = absurd (cc)
    by false c e =
        let same : count ≡ bytes = ap number_in e in
        let le : count ≤ 16384 = ltb-false 16384 count c in
        (same, omega arith)
