-- The video processor, set to an address.
use Rattle.std.proofs.Common.{ℕ, ◌%◌, ◌/◌, ◌<◌, ◌==◌, ◌∙◌, ◌≡◌, ap, arith, if◌then◌else◌, None, refl, slice_index}
use Rattle.std.proofs.lemmas.Nat.{and_mask}
use Rattle.sim_rows.proofs.Common.{high, join, low, next_in_vdp, pair_kind, plus, sum_of, VdpState, with_video_address}
use Rattle.sim_rows.proofs.Common.{Word, WriteSetup}
use Rattle.sim_rows.specs.Prelude.{NoOperation, PairKind, ReadSetup, RegisterWrite}
use Rattle.sim_move.specs.CopyPieces.{reading_word, video_at, writing_word}

abbrev kind_by : ℕ → PairKind
kind_by bits =
    if bits == 0 then ReadSetup else if bits == 1 then WriteSetup else if bits == 2 then RegisterWrite
    else NoOperation

read_kind : (at : ℕ) → at < 16384 → pair_kind (high at) ≡ ReadSetup
read_kind at k = let n : high at / 64 ≡ 0 = omega arith in ap kind_by n

read_pair : (at : ℕ) → at < 16384 → join (high at % 64) (low at) ≡ at
read_pair at k = omega arith

write_kind : (at : ℕ) → at < 16384 → pair_kind (high (sum_of Word at 0x4000)) ≡ WriteSetup
write_kind at k = let n : high (sum_of Word at 0x4000) / 64 ≡ 1 = omega arith in ap kind_by n

write_pair : (at : ℕ) → at < 16384 → join (high (sum_of Word at 0x4000) % 64) (low (sum_of Word at 0x4000)) ≡ at
write_pair at k = omega arith

pub cut : (address : ℕ) → address < 65536 → video_at address ≡ address % 16384
cut address k = omega arith

pub reads_at : (vdp : VdpState) (at : ℕ) → vdp.held ≡ None → at < 16384 →
    with_video_address at vdp ≡ record vdp { address = next_in_vdp at; fetched = slice_index vdp.memory at }
reads_at vdp at h k = rw (h, read_kind at k, read_pair at k) refl

pub writes_at : (vdp : VdpState) (at : ℕ) → vdp.held ≡ None → at < 16384 →
    with_video_address (sum_of Word at 0x4000) vdp ≡ record vdp { address = at }
writes_at vdp at h k = rw (h, write_kind at k, write_pair at k) refl

-- ---- the words that set it

pub reading_cut : (address : ℕ) → reading_word address ≡ address % 16384
reading_cut address = and_mask address 14

pub writing_cut : (address : ℕ) → writing_word address ≡ sum_of Word (address % 16384) 0x4000
writing_cut address = ap (λ n. sum_of Word n 0x4000) (reading_cut address)

pub reading_on : (address : ℕ) → reading_word (sum_of Word (address % 16384) 1) ≡ plus address 1 % 16384
reading_on address =
    let same : sum_of Word (address % 16384) 1 % 16384 ≡ plus address 1 % 16384 = omega arith in
    reading_cut (sum_of Word (address % 16384) 1) ∙ same

pub writing_on : (address : ℕ) → writing_word (sum_of Word (sum_of Word (address % 16384) 0x4000) 1)
    ≡ sum_of Word (plus address 1 % 16384) 0x4000
writing_on address =
    let at : ℕ = sum_of Word (sum_of Word (address % 16384) 0x4000) 1 in
    let same : sum_of Word (sum_of Word (address % 16384) 0x4000) 1 % 16384 ≡ plus address 1 % 16384 = omega arith in
    ap (λ n. sum_of Word n 0x4000) (reading_cut at ∙ same)
