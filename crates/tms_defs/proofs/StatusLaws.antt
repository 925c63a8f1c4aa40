-- The status register and its word give each other back.
use Rattle.std.proofs.Common.{◌≡◌, ℕ, ◌*◌, ◌/◌, ◌%◌, ◌<◌, Bool, true, false, refl, arith}
use Rattle.std.specs.Prelude.{eqb}
use Rattle.std.proofs.lemmas.Bool.Decides.{nat_tests}
use Rattle.tms_defs.specs.declared.status.Status.{Status}
use Rattle.tms_defs.specs.Status.{IsStatus, bit_of, is_set, status_word, status_at}

bit_of-test : (bit weight : ℕ) → bit < 2 → bit_of (eqb bit 1) weight ≡ bit * weight
bit_of-test bit weight lt = by (eqb bit 1) refl
  where
    by : (b : Bool) → eqb bit 1 ≡ b → bit_of b weight ≡ bit * weight
    by true e = let one : bit ≡ 1 = grind (arith, nat_tests) in rw one (omega arith)
    by false e = let none : bit ≡ 0 = grind (arith, nat_tests) in rw none (omega arith)

-- a bit of a word, in its place
bit_of-is_set : (word weight : ℕ) → bit_of (is_set word weight) weight ≡ word / weight % 2 * weight
bit_of-is_set word weight = bit_of-test (word / weight % 2) weight (omega arith)

-- all sixteen bits of a word are kept
pub status_word-status_at : (word : ℕ) → word < 65536 → status_word (status_at word) ≡ word
status_word-status_at word lt =
    let lgt = bit_of-is_set word 0x8000 in
    let agt = bit_of-is_set word 0x4000 in
    let eq = bit_of-is_set word 0x2000 in
    let c = bit_of-is_set word 0x1000 in
    let ov = bit_of-is_set word 0x0800 in
    let op = bit_of-is_set word 0x0400 in
    omega (arith, lgt, agt, eq, c, ov, op)

pub status_at-IsStatus : (word : ℕ) → IsStatus (status_at word)
status_at-IsStatus word = omega arith

-- ---- from a status register to its word, and back

bit_of-one : (b : Bool) (weight : ℕ) → (bit_of b weight ≡ bit_of b 1 * weight) × (bit_of b 1 < 2)
bit_of-one true weight = (omega arith, omega arith)
bit_of-one false weight = (omega arith, omega arith)

test-bit_of : (b : Bool) (n : ℕ) → n ≡ bit_of b 1 → eqb n 1 ≡ b
test-bit_of true n e = grind (arith, nat_tests)
test-bit_of false n e = grind (arith, nat_tests)

pub status_at-status_word : (status : Status) → IsStatus status → status_at (status_word status) ≡ status
status_at-status_word status room =
    let lgt = bit_of-one status.flags.lgt 0x8000 in
    let agt = bit_of-one status.flags.agt 0x4000 in
    let eq = bit_of-one status.flags.eq 0x2000 in
    let c = bit_of-one status.flags.c 0x1000 in
    let ov = bit_of-one status.flags.ov 0x0800 in
    let op = bit_of-one status.op 0x0400 in
    let is_lgt = test-bit_of status.flags.lgt (status_word status / 0x8000 % 2) (omega arith) in
    let is_agt = test-bit_of status.flags.agt (status_word status / 0x4000 % 2) (omega arith) in
    let is_eq = test-bit_of status.flags.eq (status_word status / 0x2000 % 2) (omega arith) in
    let is_c = test-bit_of status.flags.c (status_word status / 0x1000 % 2) (omega arith) in
    let is_ov = test-bit_of status.flags.ov (status_word status / 0x0800 % 2) (omega arith) in
    let is_op = test-bit_of status.op (status_word status / 0x0400 % 2) (omega arith) in
    let is_rest : status_word status % 1024 ≡ status.rest = omega arith in
    λ i. record {
      flags =
          record { lgt = is_lgt i; agt = is_agt i; eq = is_eq i; c = is_c i; ov = is_ov i };
      op = is_op i;
      rest = is_rest
          i;
    }

-- under a name that a crate above can give to its tactic
pub ruleset status_again = (status_at-status_word)
