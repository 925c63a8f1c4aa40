-- Facts about numbers that the instructions which go on elsewhere need.
use Rattle.std.proofs.Common.{ℕ, ◌%◌, ◌*◌, ◌+◌, ◌/◌, ◌<◌, ◌==◌, ◌∙◌, ◌≡◌, ap, arith, Bool, eqb, false, if◌then◌else◌, not, Option, refl, Some, suc, sym}
use Rattle.std.proofs.Common.{true, zero}
use Rattle.std.proofs.lemmas.Bool.{agree_below_at}
use Rattle.std.proofs.lemmas.Nat.Bits.{bit_at_xor}
use Rattle.sim_rows.proofs.Common.{Branch, Byte, exclusive_or_of, GplOperation, high, in_grom_of, in_register, is_set, is_taken, join, last_out, next_in_grom}
use Rattle.sim_rows.proofs.Common.{operation_at, plus, shifted, size_of, SLA, SRL, sum_of, Width, Word}

-- ---- the target of BR and BS

offset_is : (code : ℕ) → shifted SRL (shifted SLA code 11) 3 ≡ 256 * (code % 32)
offset_is code = omega arith

base_is : (address : ℕ) → address < 65536 → shifted SLA (shifted SRL address 13) 13 ≡ address / 8192 * 8192
base_is address h = omega arith

sum_is : (code byte address : ℕ) → byte < 256 → address < 65536 →
    sum_of Word (join (code % 32) byte) (address / 8192 * 8192) ≡ in_grom_of address (join (code % 32) byte)
sum_is code byte address h k = omega arith

high_is : (code : ℕ) → high (256 * (code % 32)) ≡ code % 32
high_is code = omega arith

pub target_is : (code byte address : ℕ) → byte < 256 → address < 65536 →
    sum_of Word (join (high (shifted SRL (shifted SLA code 11) 3)) byte) (shifted SLA (shifted SRL address 13) 13)
    ≡ in_grom_of address (join (code % 32) byte)
target_is code byte address h k =
    ap (λ n. sum_of Word (join (high n) byte) (shifted SLA (shifted SRL address 13) 13)) (offset_is code)
    ∙ ap (λ n. sum_of Word (join n byte) (shifted SLA (shifted SRL address 13) 13)) (high_is code)
    ∙ ap (λ n. sum_of Word (join (code % 32) byte) n) (base_is address k)
    ∙ sum_is code byte address h k

-- BS has the bit >20 in its code bytes, and BR has not
abbrev on_by : Bool → Option GplOperation → Bool
on_by other (Some (Branch on)) = on
on_by other _ = other

abbrev bit_out : ℕ → Bool
bit_out code = last_out SRL code 6

abbrev on_at : ℕ → Bool
on_at code = on_by (bit_out code) (operation_at code)

pub on_is : (code : ℕ) → code < 256 → (on : Bool) → operation_at code ≡ Some (Branch on) → last_out SRL code 6 ≡ on
on_is code h on e = sym (agree_below_at on_at bit_out 256 code refl h) ∙ ap (on_by (bit_out code)) e

-- the condition less that bit: the sum of two bits is odd where they are not equal
odd_sum : (bit other : ℕ) → bit < 2 → other < 2 → eqb ((bit + other) % 2) 1 ≡ not (is_taken (eqb other 1) (eqb bit 1))
odd_sum zero zero h k = refl
odd_sum zero (suc zero) h k = refl
odd_sum (suc zero) zero h k = refl
odd_sum (suc zero) (suc zero) h k = refl
odd_sum (suc (suc n)) other h k = absurd (omega arith)
odd_sum bit (suc (suc n)) h k = absurd (omega arith)

bits_differ : (above status code : ℕ) → exclusive_or_of (join above status) code / 32 % 2 ≡ (status / 32 % 2 + code / 32 % 2) % 2
bits_differ above status code =
    let e : exclusive_or_of (join above status) code / 32 % 2 ≡ (join above status / 32 % 2 + code / 32 % 2) % 2 = bit_at_xor (join above status) code 5 in
    omega arith

bit_is : (word : ℕ) → eqb (word / 32 % 2) 1 ≡ last_out SRL word 6
bit_is word = ap (λ n. eqb n 1) (omega arith)

pub tested_by : (above status code : ℕ) (on holds : Bool) → last_out SRL code 6 ≡ on → is_set status 0x20 ≡ holds →
    last_out SRL (exclusive_or_of (join above status) code) 6 ≡ not (is_taken on holds)
tested_by above status code on holds e f =
    sym (bit_is (exclusive_or_of (join above status) code))
    ∙ ap (λ n. eqb n 1) (bits_differ above status code)
    ∙ odd_sum (status / 32 % 2) (code / 32 % 2) (omega arith) (omega arith)
    ∙ ap (λ other. not (is_taken other (is_set status 0x20))) (bit_is code ∙ e)
    ∙ ap (λ bit. not (is_taken on bit)) f

-- ---- the number of CASE

pub number_is : (width : Width) (bytes word number : ℕ) → bytes ≡ size_of width → word ≡ in_register width number → word < 65536 →
    (if bytes == 1 then shifted SRL word 8 else word) ≡ number
number_is Byte bytes word number e f h = rw (e, f) (omega arith)
number_is Word bytes word number e f h = rw e f

pub most_is : (byte : Bool) → (if byte then 4 else 3) < 5
most_is true = omega arith
most_is false = omega arith

pub place_fits : (at : ℕ) → next_in_grom at < 65536 → at < 65536
place_fits at h = omega arith

pub doubled_is : (number at : ℕ) → sum_of Word (sum_of Word number number) at ≡ plus at (2 * number)
doubled_is number at = omega arith
