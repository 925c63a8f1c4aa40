-- The word of the status register with its high five bits alone: the five status bits in its high byte.
use Rattle.std.proofs.Common.{ℕ, ◌*◌, ◌/◌, ◌<◌, ◌≡◌, arith, Bool, false, true}
use Rattle.std.proofs.lemmas.Nat.Bits.{and_high_mask}
use Rattle.sim_rows.proofs.Common.{bit_of, conjunction_of, Flags, IsStatus, Status, status_word}
use Rattle.sim_alu.specs.Pieces.{kept_status}

-- a bit is the weight or nothing
bit_is : (b : Bool) (weight : ℕ) → (bit_of b weight ≡ bit_of b 1 * weight) × (bit_of b 1 < 2)
bit_is true weight = (omega arith, omega arith)
bit_is false weight = (omega arith, omega arith)

pub kept_is : (flags : Flags) (status : Status) → IsStatus status → conjunction_of (status_word (record status { flags = flags })) 0xF800 ≡
    kept_status flags
kept_is flags status room =
    let lgt = bit_is flags.lgt 0x8000 in
    let agt = bit_is flags.agt 0x4000 in
    let eq = bit_is flags.eq 0x2000 in
    let c = bit_is flags.c 0x1000 in
    let ov = bit_is flags.ov 0x0800 in
    let op = bit_is status.op 0x0400 in
    let word = status_word (record status { flags = flags }) in
    let high : conjunction_of word 0xF800 ≡ word / 2048 * 2048 = and_high_mask 16 11 (omega arith) word (omega arith) in
    let lgt2 = bit_is flags.lgt 0x80 in
    let agt2 = bit_is flags.agt 0x40 in
    let eq2 = bit_is flags.eq 0x20 in
    let c2 = bit_is flags.c 0x10 in
    let ov2 = bit_is flags.ov 0x08 in
    omega arith
