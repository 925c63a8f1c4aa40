-- An operand is read from each of its spellings, and what is read is spelled there.
use Rattle.std.proofs.Common.{◌≡◌, ℕ, zero, suc, ◌+◌, ◌*◌, ◌/◌, ◌%◌, ◌<◌, ◌≤◌, Bool, true, false, List, [], ◌∷◌}
use Rattle.std.proofs.Common.{refl, arith, Option, Some, None}
use Rattle.std.specs.Prelude.{◌==◌, if◌then◌else◌, nat_lt, slice_index, IsTrue, is_some}
use Rattle.std.proofs.lemmas.Bool.Decides.{nat_tests}
use Rattle.tms_defs.specs.Words.{high, low, join}
use Rattle.base_defs.specs.Addresses.{next_in_grom}
use Rattle.gpl_defs.specs.declared.instruction.Space.{Space}
use Rattle.gpl_defs.specs.declared.instruction.Space.TheVariants.{Cpu, Vdp}
use Rattle.gpl_defs.specs.declared.instruction.GplOperand.{GplOperand}
use Rattle.gpl_defs.specs.Bytes.{is_vdp, form_bits, index_bytes, fits_one_byte}
use Rattle.gpl_defs.specs.Spellings.{Spelling, OneByte, TwelveBits, SixteenBits, may_have, spelled, SpellsOperand, AreBytesAt, Holds}
use Rattle.gpl_defs.specs.Reading.{Read, ◌>>=◌, give, read_as, byte_at, space_of, address_at, index_by, plain_operand}
use Rattle.gpl_defs.specs.Reading.{word_at, operand_at}
use Rattle.base_defs.specs.Counts.{one_if}

abbrev pub index_at : ℕ → Read (Option ℕ)
index_at first = index_by (first / 64 % 2 == 1)

-- a long operand by its first byte, its address, and its index with the address after it
abbrev pub with_index : ℕ → ℕ → Option ℕ × ℕ → GplOperand × ℕ
with_index first address index = (
  record {
    space = space_of (first / 32 % 2 == 1);
    indirect = first / 16 % 2 == 1;
    address = address;
    index = index.0;
  },
  index.1,
)

abbrev with_address : ℕ → List ℕ → ℕ × ℕ → GplOperand × ℕ
with_address first image address = with_index first address.0 (index_at first image address.1)

-- an operand's address, by whether its first byte ends in ones, and an operand, by whether its first byte is its address
abbrev pub address_by : Bool → ℕ → Read ℕ
address_by ones first = if ones then word_at else read_as (join (first % 16)) byte_at

abbrev long_operand : ℕ → Read GplOperand
long_operand first = do
  address ← address_at first
  index ← index_at first
  give (record { space = space_of (first / 32 % 2 == 1); indirect = first / 16 % 2 == 1; address = address; index = index })

abbrev pub operand_by : Bool → ℕ → Read GplOperand
operand_by small first = if small then give (plain_operand first) else long_operand first

abbrev operand_from : ℕ → Read GplOperand
operand_from first = operand_by (nat_lt first 0x80) first

-- the bits of the first byte of an operand, by what it says
record Bits (first index vdp indirect top : ℕ) : Type 0 where
  index_bit : first / 64 % 2 ≡ index
  vdp_bit : first / 32 % 2 ≡ vdp
  indirect_bit : first / 16 % 2 ≡ indirect
  top_bits : first % 16 ≡ top
  long : 128 ≤ first

bits_of : (index vdp indirect top : ℕ) → index < 2 → vdp < 2 → indirect < 2 → top < 16 →
    Bits (0x80 + index * 0x40 + vdp * 0x20 + indirect * 0x10 + top) index vdp indirect top
bits_of index vdp indirect top a b c d = record {
  index_bit = omega arith;
  vdp_bit = omega arith;
  indirect_bit = omega arith;
  top_bits = omega arith;
  long = omega arith;
}

one_if_few : (test : Bool) → one_if test < 2
one_if_few true = omega arith
one_if_few false = omega arith

one_if_is : (test : Bool) → (one_if test == 1) ≡ test
one_if_is true = refl
one_if_is false = refl

space_of_vdp : (space : Space) → space_of (is_vdp space) ≡ space
space_of_vdp Cpu = refl
space_of_vdp Vdp = refl

first_bits : (operand : GplOperand) (top : ℕ) → top < 16 →
    Bits (form_bits operand + top) (one_if (is_some operand.index)) (one_if (is_vdp operand.space)) (one_if operand.indirect) top
first_bits operand top lt =
    bits_of (one_if (is_some operand.index)) (one_if (is_vdp operand.space)) (one_if operand.indirect) top
    (one_if_few (is_some operand.index)) (one_if_few (is_vdp operand.space)) (one_if_few operand.indirect) lt

-- an index that is there, or none
index_back : (image : List ℕ) (index : Option ℕ) (first at next : ℕ) → (first / 64 % 2 ≡ one_if (is_some index)) →
    AreBytesAt image (index_bytes index) at next → index_at first image at ≡ (index, next)
index_back image None first at next bit are_at = rw (bit, are_at) refl
index_back image (Some index) first at next bit are_at = rw (bit, are_at.0, are_at.1) refl

-- what follows the address
rest_back : (image : List ℕ) (operand : GplOperand) (first top at next : ℕ) →
    Bits first (one_if (is_some operand.index)) (one_if (is_vdp operand.space)) (one_if operand.indirect) top →
    AreBytesAt image (index_bytes operand.index) at next →
    with_address first image (operand.address, at) ≡ (operand, next)
rest_back image operand first top at next bits are_at =
    rw (
      index_back image operand.index first at next bits.index_bit are_at,
      bits.vdp_bit,
      bits.indirect_bit,
      one_if_is (is_vdp operand.space),
      one_if_is operand.indirect,
      space_of_vdp operand.space,
    )
    refl

long_back : (image : List ℕ) (operand : GplOperand) (first top at after next : ℕ) →
    Bits first (one_if (is_some operand.index)) (one_if (is_vdp operand.space)) (one_if operand.indirect) top →
    address_at first image at ≡ (operand.address, after) → AreBytesAt image (index_bytes operand.index) after next →
    operand_from first image at ≡ (operand, next)
long_back image operand first top at after next bits address are_at =
    let test : nat_lt first 0x80 ≡ false = grind (arith, nat_tests, bits.long) in
    rw (test, address) (rest_back image operand first top after next bits are_at)

plain_back : (space : Space) (indirect : Bool) (address : ℕ) (index : Option ℕ) →
    IsTrue (fits_one_byte (record { space = space; indirect = indirect; address = address; index = index })) →
    plain_operand address ≡ record { space = space; indirect = indirect; address = address; index = index }
plain_back Cpu false address None fits = refl
plain_back Cpu false address (Some index) fits = absurd (cc)
plain_back Cpu true address index fits = absurd (cc)
plain_back Vdp indirect address index fits = absurd (cc)

plain_small : (operand : GplOperand) → IsTrue (fits_one_byte operand) → operand.address < 0x80
plain_small operand fits =
    grind (arith, nat_tests, fits)

one_byte_back : (image : List ℕ) (operand : GplOperand) (at : ℕ) → IsTrue (fits_one_byte operand) →
    operand_from operand.address image at ≡ (operand, at)
one_byte_back image operand at fits =
    let test : nat_lt operand.address 0x80 ≡ true = grind (arith, nat_tests, plain_small operand fits) in
    rw (test, plain_back operand.space operand.indirect operand.address operand.index fits) refl

-- the address of twelve bits, of which the high four are not all ones
twelve_back : (image : List ℕ) (first address at : ℕ) → address < 0x0F00 → first % 16 ≡ high address →
    slice_index image at ≡ low address → address_at first image at ≡ (address, next_in_grom at)
twelve_back image first address at lt top second =
    let short : (first % 16 == 15) ≡ false = grind (arith, nat_tests) in
    let whole : join (high address) (low address) ≡ address = omega arith in
    rw (short, top, second, whole) refl

sixteen_back : (image : List ℕ) (first address at : ℕ) → first % 16 ≡ 15 → slice_index image at ≡ high address →
    slice_index image (next_in_grom at) ≡ low address →
    address_at first image at ≡ (address, next_in_grom (next_in_grom at))
sixteen_back image first address at top second third =
    let whole : join (high address) (low address) ≡ address = omega arith in
    rw (top, second, third, whole) refl

spelled_back : (image : List ℕ) (operand : GplOperand) (spelling : Spelling) (at next : ℕ) →
    IsTrue (may_have spelling operand) → AreBytesAt image (spelled spelling operand) at next →
    operand_from (slice_index image at) image (next_in_grom at) ≡ (operand, next)
spelled_back image operand OneByte at next allowed are_at =
    rw (are_at.0, one_byte_back image operand (next_in_grom at) allowed, are_at.1) refl
spelled_back image operand TwelveBits at next allowed are_at =
    let lt : operand.address < 0x0F00 = grind (arith, nat_tests, allowed) in
    let bits = first_bits operand (high operand.address) (omega arith) in
    let address =
    twelve_back image (form_bits operand + high operand.address) operand.address (next_in_grom at) lt bits.top_bits are_at.1.0 in
    rw are_at.0 (long_back image operand _ _ (next_in_grom at) (next_in_grom (next_in_grom at)) next bits address are_at.1.1)
spelled_back image operand SixteenBits at next allowed are_at =
    let bits = first_bits operand 15 (omega arith) in
    let address =
    sixteen_back image (form_bits operand + 15) operand.address (next_in_grom at) bits.top_bits are_at.1.0 are_at.1.1.0 in
    rw are_at.0 (long_back image operand _ _ (next_in_grom at) _ next bits address are_at.1.1.1)

-- an operand is read from each of its spellings
pub operand_back : (image : List ℕ) (operand : GplOperand) (at next : ℕ) → Holds (SpellsOperand operand) image at next →
    operand_at image at ≡ (operand, next)
unfolding operand_at
operand_back image operand at next holds =
    spelled_back image operand holds.is_kind.spelling at next holds.is_kind.allowed (rw holds.is_kind.is at holds.are_bytes_at)

-- ---- what is read is spelled there

-- a long operand's first byte is its bits
first_is : (first : ℕ) → 128 ≤ first → first < 256 →
    0x80 + first / 64 % 2 * 0x40 + first / 32 % 2 * 0x20 + first / 16 % 2 * 0x10 + first % 16 ≡ first
first_is first long lt = omega arith

bit_is : (n : ℕ) → n < 2 → one_if (n == 1) ≡ n
bit_is zero lt = refl
bit_is (suc zero) lt = refl
bit_is (suc (suc n)) lt = absurd (omega arith)

vdp_is : (test : Bool) → is_vdp (space_of test) ≡ test
vdp_is true = refl
vdp_is false = refl

index_is : (test : Bool) (image : List ℕ) (at : ℕ) → is_some (index_by test image at).0 ≡ test
index_is true image at = refl
index_is false image at = refl

-- the operand that is read after a long first byte and an address
abbrev long : List ℕ → ℕ → ℕ → ℕ → GplOperand
long image first address at = (with_index first address (index_at first image at)).0

form_is : (image : List ℕ) (first address at : ℕ) → 128 ≤ first → first < 256 →
    form_bits (long image first address at) + first % 16 ≡ first
form_is image first address at from lt =
    rw (
      index_is (first / 64 % 2 == 1) image at,
      vdp_is (first / 32 % 2 == 1),
      bit_is (first / 64 % 2) (omega arith),
      bit_is (first / 32 % 2) (omega arith),
      bit_is (first / 16 % 2) (omega arith),
    ) (first_is first from lt)

index_read : (test : Bool) (image : List ℕ) (at : ℕ) →
    AreBytesAt image (index_bytes (index_by test image at).0) at (index_by test image at).1
index_read true image at = (refl, refl)
index_read false image at = refl

abbrev HoldsRead : List ℕ → ℕ → GplOperand × ℕ → Type 0
HoldsRead image at read = Holds (SpellsOperand read.0) image at read.1

small_read : (image : List ℕ) (at : ℕ) → slice_index image at < 0x80 →
    HoldsRead image at (plain_operand (slice_index image at), next_in_grom at)
small_read image at lt =
    record {
      bytes = slice_index image at ∷ [];
      is_kind = record { spelling = OneByte; allowed = grind (arith, nat_tests); is = refl };
      are_bytes_at = (refl, refl);
    }

twelve_read : (image : List ℕ) (at : ℕ) → 128 ≤ slice_index image at → slice_index image at < 256 →
    slice_index image (next_in_grom at) < 256 → slice_index image at % 16 < 15 →
    HoldsRead image at
    (with_address (slice_index image at) image
    (join (slice_index image at % 16) (slice_index image (next_in_grom at)), next_in_grom (next_in_grom at)))
twelve_read image at from lt second_lt short =
    let first : ℕ = slice_index image at in
    let second : ℕ = slice_index image (next_in_grom at) in
    let form = form_is image first (join (first % 16) second) (next_in_grom (next_in_grom at)) from lt in
    record {
      bytes = first ∷ second ∷ index_bytes (index_at first image (next_in_grom (next_in_grom at))).0;
      is_kind = record {
        spelling = TwelveBits;
        allowed = grind (arith, nat_tests);
        is =
            (let top : high (join (first % 16) second) ≡ first % 16 = omega arith in
            let below : low (join (first % 16) second) ≡ second = omega arith in
            rw (top, below, form) refl);
      };
      are_bytes_at = (refl, (refl, index_read (first / 64 % 2 == 1) image (next_in_grom (next_in_grom at))));
    }

sixteen_read : (image : List ℕ) (at : ℕ) → 128 ≤ slice_index image at → slice_index image at < 256 →
    slice_index image (next_in_grom at) < 256 → slice_index image (next_in_grom (next_in_grom at)) < 256 →
    slice_index image at % 16 ≡ 15 →
    HoldsRead image at (with_address (slice_index image at) image (word_at image (next_in_grom at)))
sixteen_read image at from lt second_lt third_lt ones =
    let first : ℕ = slice_index image at in
    let second : ℕ = slice_index image (next_in_grom at) in
    let third : ℕ = slice_index image (next_in_grom (next_in_grom at)) in
    let after : ℕ = next_in_grom (next_in_grom (next_in_grom at)) in
    let form = form_is image first (join second third) after from lt in
    record {
      bytes = first ∷ second ∷ third ∷ index_bytes (index_at first image after).0;
      is_kind = record {
        spelling = SixteenBits;
        allowed = refl;
        is =
            (let top : high (join second third) ≡ second = omega arith in
            let below : low (join second third) ≡ third = omega arith in
            let sum : form_bits (long image first (join second third) after) + 15 ≡ first = omega arith in
            rw (top, below, sum) refl);
      };
      are_bytes_at = (refl, (refl, (refl, index_read (first / 64 % 2 == 1) image after)));
    }

-- an operand that is read is spelled there
pub operand_read : (image : List ℕ) (at : ℕ) → ((k : ℕ) → slice_index image k < 256) →
    Holds (SpellsOperand (operand_at image at).0) image at (operand_at image at).1
unfolding operand_at
operand_read image at fits = by (nat_lt (slice_index image at) 0x80) refl
  where
    first : ℕ
    first = slice_index image at

    by_top : 128 ≤ slice_index image at → (ones : Bool) → (slice_index image at % 16 == 15) ≡ ones →
        HoldsRead image at
        (with_address (slice_index image at) image (address_by ones (slice_index image at) image (next_in_grom at)))
    by_top from true e =
        sixteen_read image at from (fits at) (fits (next_in_grom at)) (fits (next_in_grom (next_in_grom at)))
        (grind (arith, nat_tests))
    by_top from false e =
        let lt = fits at in
        twelve_read image at from lt (fits (next_in_grom at)) (grind (arith, nat_tests))

    by : (small : Bool) → nat_lt (slice_index image at) 0x80 ≡ small →
        HoldsRead image at (operand_by small (slice_index image at) image (next_in_grom at))
    by true e = small_read image at (grind (arith, nat_tests))
    by false e = by_top (grind (arith, nat_tests)) (slice_index image at % 16 == 15) refl
