-- How many bytes an instruction has, by the addresses before and after them.
use Rattle.std.proofs.Common.{◌≡◌, ◌≢◌, ℕ, suc, ◌+◌, ◌*◌, ◌/◌, ◌%◌, ◌<◌, ◌≤◌, Bool, true, false}
use Rattle.std.proofs.Common.{List, [], ◌∷◌, ◌++◌, length, length-append, refl, sym, ◌∙◌, arith}
use Rattle.std.specs.Prelude.{slice_index, ◌==◌, ◌&&◌, IsTrue, Option, Some, None}
use Rattle.std.proofs.lemmas.Bool.Decides.{nat_tests}
use Rattle.base_defs.specs.Addresses.{next_in_grom}
use Rattle.gpl_defs.specs.declared.instruction.GplOperand.{GplOperand}
use Rattle.gpl_defs.specs.declared.instruction.GplSource.{GplSource}
use Rattle.gpl_defs.specs.declared.instruction.GplSource.TheVariants as source
use Rattle.gpl_defs.specs.declared.instruction.MoveLength.{MoveLength}
use Rattle.gpl_defs.specs.declared.instruction.MoveLength.TheVariants as count
use Rattle.gpl_defs.specs.declared.instruction.MoveTarget.{MoveTarget}
use Rattle.gpl_defs.specs.declared.instruction.MoveTarget.TheVariants as target
use Rattle.gpl_defs.specs.declared.instruction.MoveSource.{MoveSource}
use Rattle.gpl_defs.specs.declared.instruction.MoveSource.TheVariants as from
use Rattle.gpl_defs.specs.declared.instruction.GplInstr.{GplInstr}
use Rattle.gpl_defs.specs.declared.instruction.GplInstr.TheVariants.{One, Two, Move}
use Rattle.gpl_defs.specs.declared.instruction.GplRead.TheVariants.{Instr}
use Rattle.gpl_defs.specs.Valid.{is_valid}
use Rattle.gpl_defs.specs.Bytes.{index_bytes, value_bytes, bytes_of}
use Rattle.gpl_defs.specs.Spellings.{Spelling, OneByte, spelled, SpellsOperand, SpellsSource, SpellsLength}
use Rattle.gpl_defs.specs.Spellings.{SpellsTarget, SpellsFrom, SpellsRest, Spells, AreBytesAt}
use Rattle.gpl_defs.specs.Reading.{reading, are_bytes_at, ReadsInstr}
use Rattle.gpl_forms.specs.Sizes.{size_between}
use Rattle.gpl_defs.proofs.MeaningLaws.{bytes_read}
use Rattle.gpl_defs.proofs.ShortLaws.{bytes_shortest}

-- ---- no spelling has more than 13 bytes

index_few : (index : Option ℕ) → length (index_bytes index) ≤ 1
index_few None = omega arith
index_few (Some index) = omega arith

spelled_few : (spelling : Spelling) (operand : GplOperand) → length (spelled spelling operand) ≤ 4
spelled_few OneByte operand = omega arith
spelled_few _ operand = omega (arith, index_few operand.index)

operand_few : (operand : GplOperand) (bytes : List ℕ) → SpellsOperand operand bytes → length bytes ≤ 4
operand_few operand bytes spells = rw spells.is (spelled_few spells.spelling operand)

value_few : (word : Bool) (value : ℕ) → length (value_bytes word value) ≤ 4
value_few true value = omega arith
value_few false value = omega arith

source_few : (word : Bool) (src : GplSource) (bytes : List ℕ) → SpellsSource word src bytes → length bytes ≤ 4
source_few word (source.At operand) bytes spells = operand_few operand bytes spells
source_few word (source.Immediate value) bytes spells = rw spells (value_few word value)

length_few : (amount : MoveLength) (bytes : List ℕ) → SpellsLength amount bytes → length bytes ≤ 4
length_few (count.At operand) bytes spells = operand_few operand bytes spells
length_few (count.Immediate number) bytes spells = rw spells (omega arith)

target_few : (to : MoveTarget) (bytes : List ℕ) → SpellsTarget to bytes → length bytes ≤ 4
target_few (target.At operand) bytes spells = operand_few operand bytes spells
target_few (target.Register number) bytes spells = rw spells (omega arith)

from_few : (source : MoveSource) (bytes : List ℕ) → SpellsFrom source bytes → length bytes ≤ 4
from_few (from.At operand) bytes spells = operand_few operand bytes spells
from_few _ bytes spells = rw spells (omega arith)

both_few : (first second bytes : List ℕ) (few more : ℕ) → length first ≤ few → length second ≤ more →
    bytes ≡ first ++ second → length bytes ≤ few + more
both_few first second bytes few more left right same = rw (same, length-append first second) (omega arith)

rest_few : (instr : GplInstr) (bytes : List ℕ) → SpellsRest instr bytes → length bytes ≤ 12
rest_few (One op word at) bytes spells = omega (arith, operand_few at bytes spells)
rest_few (Two op word dst src) bytes spells =
    let few = both_few spells.first spells.second bytes 4 4 (operand_few dst spells.first spells.is_first)
    (source_few word src spells.second spells.is_second) spells.is in
    omega (arith, few)
rest_few (Move amount to source) bytes spells =
    let ends = spells.is_second in
    let rest = both_few ends.first ends.second spells.second 4 4 (target_few to ends.first ends.is_first)
    (from_few source ends.second ends.is_second) ends.is in
    let few = both_few spells.first spells.second bytes 4 8 (length_few amount spells.first spells.is_first) rest
    spells.is in
    omega (arith, few)
rest_few _ bytes spells = rw spells (omega arith)

pub spelled_in_13 : (instr : GplInstr) (bytes : List ℕ) → Spells instr bytes → length bytes ≤ 13
spelled_in_13 instr bytes spells = rw spells.is (omega (arith, rest_few instr spells.rest spells.is_rest))

-- ---- the address after bytes

-- the address a number of bytes after another in one GROM
abbrev pub after : ℕ → ℕ → ℕ
after at count = at / 8192 * 8192 + (at + count) % 8192

after-next : (at count : ℕ) → after (next_in_grom at) count ≡ after at (suc count)
after-next at count = omega arith

bytes_end : (image bytes : List ℕ) (at next : ℕ) → AreBytesAt image bytes at next → next ≡ after at (length bytes)
bytes_end image [] at next holds_bytes_at = omega arith
bytes_end image (byte ∷ bytes) at next holds_bytes_at =
    bytes_end image bytes (next_in_grom at) next holds_bytes_at.1 ∙ after-next at (length bytes)

same_by_test : (a b : ℕ) → (a == b) ≡ true → a ≡ b
same_by_test a b e = grind (arith, nat_tests)

other_by_test : (a b : ℕ) → (a == b) ≡ false → a ≢ b
other_by_test a b e same = grind (arith, nat_tests)

bytes_first : (image bytes : List ℕ) (byte at : ℕ) (same holds_bytes_at : Bool) → (slice_index image at == byte) ≡ same →
    are_bytes_at image bytes (next_in_grom at) ≡ holds_bytes_at → (same && holds_bytes_at) ≡ true →
    (slice_index image at ≡ byte) × (are_bytes_at image bytes (next_in_grom at) ≡ true)
bytes_first image bytes byte at true true e f test = (same_by_test (slice_index image at) byte e, f)
bytes_first image bytes byte at _ _ e f test = absurd (cc)

-- a test that bytes stand says where they end
test_bytes : (image bytes : List ℕ) (at : ℕ) → are_bytes_at image bytes at ≡ true →
    AreBytesAt image bytes at (after at (length bytes))
test_bytes image [] at test = omega arith
test_bytes image (byte ∷ bytes) at test =
    let parts =
    bytes_first image bytes byte at (slice_index image at == byte) (are_bytes_at image bytes (next_in_grom at)) refl refl
    test in
    let rest = test_bytes image bytes (next_in_grom at) parts.1 in
    (parts.0, rw (after-next at (length bytes)) at rest)

bytes_test : (image bytes : List ℕ) (at next : ℕ) → AreBytesAt image bytes at next → are_bytes_at image bytes at ≡ true
bytes_test image [] at next holds_bytes_at = refl
bytes_test image (byte ∷ bytes) at next holds_bytes_at =
    let same : (slice_index image at == byte) ≡ true = grind (arith, nat_tests) in
    rw (same, bytes_test image bytes (next_in_grom at) next holds_bytes_at.1) refl

-- ---- the shortest spelling

size-after : (at count : ℕ) → at < 65536 → count ≤ 13 → size_between at (after at count) ≡ count
size-after at count lt few = omega arith

-- an instruction is in its shortest spelling where that has as many bytes as those from which it was read
pub are_bytes_by_size : (image : List ℕ) (at next : ℕ) (instr : GplInstr) → at < 65536 →
    ReadsInstr image at instr next → reading image at ≡ Instr instr next →
    are_bytes_at image (bytes_of instr) at ≡ (length (bytes_of instr) == size_between at next)
are_bytes_by_size image at next instr lt reads read =
    by (are_bytes_at image (bytes_of instr) at) (length (bytes_of instr) == size_between at next) refl refl
  where
    valid : IsTrue (is_valid instr)
    valid = reads.means.is_kind.valid

    few : length reads.means.bytes ≤ 13
    few = spelled_in_13 instr reads.means.bytes reads.means.is_kind

    there : size_between at next ≡ length reads.means.bytes
    there =
        rw (bytes_end image reads.means.bytes at next reads.means.are_bytes_at)
        (size-after at (length reads.means.bytes) lt few)

    by : (holds_bytes_at same : Bool) → are_bytes_at image (bytes_of instr) at ≡ holds_bytes_at →
        (length (bytes_of instr) == size_between at next) ≡ same → holds_bytes_at ≡ same
    by true false e f =
        let back = test_bytes image (bytes_of instr) at e in
        let again = bytes_read instr valid image at (after at (length (bytes_of instr))) back in
        let end : next ≡ after at (length (bytes_of instr)) = cc in
        let short : length (bytes_of instr) ≤ 13 =
        spelled_in_13 instr (bytes_of instr) (bytes_shortest instr valid).spells in
        let size : size_between at next ≡ length (bytes_of instr) =
        rw end (size-after at (length (bytes_of instr)) lt short) in
        absurd (other_by_test (length (bytes_of instr)) (size_between at next) f (sym size))
    by false true e f =
        let size : length reads.means.bytes ≡ length (bytes_of instr) =
        sym there ∙ sym (same_by_test (length (bytes_of instr)) (size_between at next) f) in
        let same = (bytes_shortest instr valid).alone reads.means.bytes reads.means.is_kind size in
        let holds_bytes_at : AreBytesAt image (bytes_of instr) at next = rw same at reads.means.are_bytes_at in
        let test = bytes_test image (bytes_of instr) at next holds_bytes_at in
        absurd (cc)
    by _ _ e f = refl
