-- An instruction is read from each of its spellings, and what is read is spelled there.
use Rattle.std.proofs.Common.{◌≡◌, ℕ, ◌+◌, ◌*◌, ◌/◌, ◌%◌, ◌<◌, Bool, true, false, ◌||◌, not}
use Rattle.std.proofs.Common.{List, [], ◌∷◌, refl, ap, ◌∙◌, arith, Some}
use Rattle.std.specs.Prelude.{◌==◌, slice_index, IsTrue}
use Rattle.std.proofs.lemmas.Bool.Decides.{nat_tests}
use Rattle.tms_defs.specs.Words.{high, low, join}
use Rattle.base_defs.specs.Addresses.{next_in_grom}
use Rattle.gpl_defs.specs.declared.instruction.GplOperand.{GplOperand}
use Rattle.gpl_defs.specs.declared.instruction.GplSource.{GplSource}
use Rattle.gpl_defs.specs.declared.instruction.GplSource.TheVariants as source
use Rattle.gpl_defs.specs.declared.instruction.MoveLength.{MoveLength}
use Rattle.gpl_defs.specs.declared.instruction.MoveLength.TheVariants as counted
use Rattle.gpl_defs.specs.declared.instruction.MoveTarget.{MoveTarget}
use Rattle.gpl_defs.specs.declared.instruction.MoveTarget.TheVariants as target
use Rattle.gpl_defs.specs.declared.instruction.MoveSource.{MoveSource}
use Rattle.gpl_defs.specs.declared.instruction.MoveSource.TheVariants as from
use Rattle.gpl_defs.specs.declared.instruction.MoveKind.{MoveKind}
use Rattle.gpl_defs.specs.declared.instruction.MoveKind.TheVariants.{GromToMemory}
use Rattle.gpl_defs.specs.declared.instruction.OneName.{OneName}
use Rattle.gpl_defs.specs.declared.instruction.OneName.TheVariants.{FETCH, PUSH}
use Rattle.gpl_defs.specs.declared.instruction.TwoName.{TwoName}
use Rattle.gpl_defs.specs.declared.instruction.TwoName.TheVariants.{EX}
use Rattle.gpl_defs.specs.declared.instruction.GplInstr.{GplInstr}
use Rattle.gpl_defs.specs.declared.instruction.GplInstr.TheVariants.{Plain, Byte, Jump, Branch, One, Two, Move}
use Rattle.gpl_defs.specs.declared.instruction.GplRead.TheVariants.{Instr}
use Rattle.gpl_defs.specs.Codes.{row_of, branch_row, one_row, two_row, move_row, operation_at}
use Rattle.gpl_defs.specs.Valid.{is_valid, is_valid_source, is_valid_move, has_words}
use Rattle.gpl_defs.specs.Bytes.{word_bytes, value_bytes, from_bytes, kind_of, operation_of, is_immediate, is_counted}
use Rattle.gpl_defs.specs.Bytes.{variant_of, code_of}
use Rattle.gpl_defs.specs.Spellings.{SpellsSource, SpellsLength, SpellsTarget, SpellsFrom, SpellsRest}
use Rattle.gpl_defs.specs.Spellings.{AreBytesAt, Holds, Joined, Means}
use Rattle.gpl_defs.specs.Reading.{word_at, value_at, source_at, length_at, target_at, from_at, move_at, instr_at, operand_at}
use Rattle.gpl_defs.specs.Reading.{reading}
use Rattle.gpl_defs.proofs.CodeLaws.{found, rows_fit, row_fits, row_begins, row_ends}
use Rattle.gpl_defs.proofs.BytesAtLaws.{holds_part}
use Rattle.gpl_defs.proofs.OperandLaws.{operand_back}
use Rattle.base_defs.specs.Counts.{one_if}

-- ---- from the spelling to what is read

word_back : (image : List ℕ) (word at next : ℕ) → AreBytesAt image (word_bytes word) at next →
    word_at image at ≡ (word, next)
word_back image word at next are_at =
    let whole : join (high word) (low word) ≡ word = omega arith in rw (are_at.0, are_at.1.0, are_at.1.1, whole) refl

value_back : (image : List ℕ) (word : Bool) (value at next : ℕ) → AreBytesAt image (value_bytes word value) at next →
    value_at word image at ≡ (value, next)
value_back image true value at next are_at = word_back image value at next are_at
value_back image false value at next are_at = rw (are_at.0, are_at.1) refl

source_back : (image : List ℕ) (word : Bool) (src : GplSource) (at next : ℕ) →
    Holds (SpellsSource word src) image at next → source_at (is_immediate src) word image at ≡ (src, next)
source_back image word (source.At operand) at next holds = rw (operand_back image operand at next holds) refl
source_back image word (source.Immediate value) at next holds =
    rw (value_back image word value at next (rw holds.is_kind at holds.are_bytes_at)) refl

length_back : (image : List ℕ) (count : MoveLength) (at next : ℕ) → Holds (SpellsLength count) image at next →
    length_at (is_counted count) image at ≡ (count, next)
length_back image (counted.At operand) at next holds = rw (operand_back image operand at next holds) refl
length_back image (counted.Immediate count) at next holds =
    ap (λ (read : ℕ × ℕ). (counted.Immediate read.0, read.1)) (word_back image count at next (rw holds.is_kind at holds.are_bytes_at))

memory_target : (image : List ℕ) (operand : GplOperand) (source : MoveSource) (at next : ℕ) →
    operand_at image at ≡ (operand, next) →
    target_at (kind_of (target.At operand) source) image at ≡ (target.At operand, next)
memory_target image operand (from.At place) at next read = rw read refl
memory_target image operand (from.Grom address) at next read = rw read refl
memory_target image operand (from.GromIndexed address index) at next read = rw read refl

target_back : (image : List ℕ) (to : MoveTarget) (source : MoveSource) (at next : ℕ) →
    Holds (SpellsTarget to) image at next → target_at (kind_of to source) image at ≡ (to, next)
target_back image (target.At operand) source at next holds =
    memory_target image operand source at next (operand_back image operand at next holds)
target_back image (target.Register number) source at next holds =
    let are_at : AreBytesAt image (number ∷ []) at next = rw holds.is_kind at holds.are_bytes_at in rw (are_at.0, are_at.1) refl

from_back : (image : List ℕ) (to : MoveTarget) (source : MoveSource) (at next : ℕ) → IsTrue (is_valid_move to source) →
    Holds (SpellsFrom source) image at next → from_at (kind_of to source) image at ≡ (source, next)
from_back image (target.At operand) (from.At place) at next valid holds = rw (operand_back image place at next holds) refl
from_back image (target.At operand) (from.Grom address) at next valid holds =
    ap (λ (read : ℕ × ℕ). (from.Grom read.0, read.1)) (word_back image address at next (rw holds.is_kind at holds.are_bytes_at))
from_back image (target.At operand) (from.GromIndexed address index) at next valid holds =
    let are_at : AreBytesAt image (from_bytes (from.GromIndexed address index)) at next = rw holds.is_kind at holds.are_bytes_at in
    let word = word_back image address at (next_in_grom (next_in_grom at)) (are_at.0, (are_at.1.0, refl)) in
    ap
    (λ (read : ℕ × ℕ). (from.GromIndexed read.0 (slice_index image read.1), next_in_grom read.1))
    word
    ∙ rw (are_at.1.1.0, are_at.1.1.1) refl
from_back image (target.Register number) (from.Grom address) at next valid holds =
    ap (λ (read : ℕ × ℕ). (from.Grom read.0, read.1)) (word_back image address at next (rw holds.is_kind at holds.are_bytes_at))
from_back image (target.Register number) (from.At place) at next valid holds = absurd (cc)
from_back image (target.Register number) (from.GromIndexed address index) at next valid holds = absurd (cc)

move_back : (image : List ℕ) (count : MoveLength) (to : MoveTarget) (source : MoveSource) (at next : ℕ) →
    IsTrue (is_valid_move to source) →
    Holds (Joined (SpellsLength count) (Joined (SpellsTarget to) (SpellsFrom source))) image at next →
    move_at (kind_of to source) (is_counted count) image at ≡ (Move count to source, next)
move_back image count to source at next valid holds =
    let outer = holds_part image at next holds in
    let inner = holds_part image outer.middle next outer.end in
    rw (
      length_back image count at outer.middle outer.begin,
      target_back image to source outer.middle inner.middle inner.begin,
      from_back image to source inner.middle next valid inner.end,
    ) refl

-- the bits of a code byte that say the form

word_bit : (test : Bool) (n : ℕ) → n ≡ one_if test → (n == 1) ≡ test
word_bit true n e = rw e refl
word_bit false n e = rw e refl

one_if_few : (test : Bool) → one_if test < 2
one_if_few true = omega arith
one_if_few false = omega arith

-- ---- the row of a valid instruction has its code byte

one_count : (op : OneName) (word : Bool) → IsTrue (has_words op || not word) → one_if word < (one_row op).count
one_count FETCH true valid = absurd (cc)
one_count PUSH true valid = absurd (cc)
one_count FETCH false valid = omega arith
one_count PUSH false valid = omega arith
one_count _ true valid = omega arith
one_count _ false valid = omega arith

two_count : (op : TwoName) (word : Bool) (src : GplSource) → IsTrue (is_valid_source op word src) →
    one_if (is_immediate src) * 2 + one_if word < (two_row op).count
two_count EX word (source.Immediate value) valid = absurd (cc)
two_count EX true (source.At operand) valid = omega arith
two_count EX false (source.At operand) valid = omega arith
two_count _ true (source.At operand) valid = omega arith
two_count _ false (source.At operand) valid = omega arith
two_count _ true (source.Immediate value) valid = omega arith
two_count _ false (source.Immediate value) valid = omega arith

branch_count : (on : Bool) (offset : ℕ) → offset < 0x2000 → high offset < (branch_row on).count
branch_count true offset lt = omega arith
branch_count false offset lt = omega arith

move_count : (kind : MoveKind) (test : Bool) → one_if test < (move_row kind).count
move_count GromToMemory true = omega arith
move_count GromToMemory false = omega arith
move_count _ true = omega arith
move_count _ false = omega arith

in_row : (instr : GplInstr) → IsTrue (is_valid instr) → variant_of instr < (row_of (operation_of instr)).count
in_row (Branch on offset) valid = branch_count on offset (grind (arith, nat_tests, valid))
in_row (One op word operand) valid = one_count op word valid
in_row (Two op word dst src) valid = two_count op word src valid
in_row (Move count to source) valid = move_count (kind_of to source) (is_counted count)
in_row instr valid = row_begins (operation_of instr)

record HasRow (instr : GplInstr) : Type 0 where
  row : operation_at (code_of instr) ≡ Some (operation_of instr)
  fits : row_fits (Some (operation_of instr)) (code_of instr) ≡ true

has_row : (instr : GplInstr) → IsTrue (is_valid instr) → HasRow instr
has_row instr valid =
    let row = found (operation_of instr) (variant_of instr) (in_row instr valid) in
    let lt : code_of instr < 256 = omega (arith, row_ends (operation_of instr), in_row instr valid) in
    record { row = row; fits = rw row at (rows_fit (code_of instr) lt) }

-- ---- from the spelling to what is read

instr_back : (image : List ℕ) (instr : GplInstr) (at next : ℕ) → IsTrue (is_valid instr) →
    Holds (SpellsRest instr) image at next → row_fits (Some (operation_of instr)) (code_of instr) ≡ true →
    instr_at (operation_of instr) (code_of instr) image at ≡ (instr, next)
instr_back image (Plain op) at next valid holds fits = rw (rw holds.is_kind at holds.are_bytes_at) refl
instr_back image (Byte op value) at next valid holds fits =
    let are_at : AreBytesAt image (value ∷ []) at next = rw holds.is_kind at holds.are_bytes_at in rw (are_at.0, are_at.1) refl
instr_back image (Jump op to) at next valid holds fits =
    ap (λ (read : ℕ × ℕ). (Jump op read.0, read.1)) (word_back image to at next (rw holds.is_kind at holds.are_bytes_at))
instr_back image (Branch on offset) at next valid holds fits =
    let are_at : AreBytesAt image (low offset ∷ []) at next = rw holds.is_kind at holds.are_bytes_at in
    let lt : offset < 0x2000 = grind (arith, nat_tests, valid) in
    let top : code_of (Branch on offset) % 32 ≡ high offset = grind (arith, nat_tests, fits) in
    let whole : join (high offset) (low offset) ≡ offset = omega arith in
    rw (top, are_at.0, are_at.1, whole) refl
instr_back image (One op word operand) at next valid holds fits =
    let bit : (code_of (One op word operand) % 2 == 1) ≡ word =
    word_bit word _ (let few = one_if_few word in grind (arith, nat_tests, fits)) in
    rw (operand_back image operand at next holds, bit) refl
instr_back image (Two op word dst src) at next valid holds fits =
    let halves = holds_part image at next holds in
    let few = one_if_few word in
    let few_too = one_if_few (is_immediate src) in
    let bit : (code_of (Two op word dst src) % 2 == 1) ≡ word = word_bit word _ (grind (arith, nat_tests, fits)) in
    let bit_too : (code_of (Two op word dst src) / 2 % 2 == 1) ≡ is_immediate src =
    word_bit (is_immediate src) _ (grind (arith, nat_tests, fits)) in
    rw (
      bit,
      bit_too,
      operand_back image dst at halves.middle halves.begin,
      source_back image word src halves.middle next halves.end,
    ) refl
instr_back image (Move count to source) at next valid holds fits =
    let bit : (code_of (Move count to source) % 2 == 1) ≡ is_counted count =
    word_bit (is_counted count) _ (let few = one_if_few (is_counted count) in grind (arith, nat_tests, fits)) in
    rw bit (move_back image count to source at next valid holds)

-- what is there means the instruction alone
pub means_back : (image : List ℕ) (at : ℕ) (instr : GplInstr) (next : ℕ) → Means image at instr next →
    reading image at ≡ Instr instr next
unfolding reading
means_back image at instr next means =
    let are_at : AreBytesAt image (code_of instr ∷ means.is_kind.rest) at next = rw means.is_kind.is at means.are_bytes_at in
    let row = has_row instr means.is_kind.valid in
    let rest : Holds (SpellsRest instr) image (next_in_grom at) next =
    record { bytes = means.is_kind.rest; is_kind = means.is_kind.is_rest; are_bytes_at = are_at.1 } in
    rw (are_at.0, row.row, instr_back image instr (next_in_grom at) next means.is_kind.valid rest row.fits) refl
