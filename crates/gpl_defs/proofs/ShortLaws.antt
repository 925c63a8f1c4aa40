-- The spelling that is written is the shortest.
use Rattle.std.proofs.Common.{◌≡◌, ℕ, ◌<◌, ◌≤◌, Bool, true, false, List, [], ◌∷◌, ◌++◌, length}
use Rattle.std.proofs.Common.{length-append, refl, ap, arith}
use Rattle.std.specs.Prelude.{if◌then◌else◌, IsTrue}
use Rattle.gpl_defs.specs.declared.instruction.GplOperand.{GplOperand}
use Rattle.gpl_defs.specs.declared.instruction.GplSource.{GplSource}
use Rattle.gpl_defs.specs.declared.instruction.GplSource.TheVariants as source
use Rattle.gpl_defs.specs.declared.instruction.MoveLength.{MoveLength}
use Rattle.gpl_defs.specs.declared.instruction.MoveLength.TheVariants as count
use Rattle.gpl_defs.specs.declared.instruction.MoveTarget.{MoveTarget}
use Rattle.gpl_defs.specs.declared.instruction.MoveTarget.TheVariants as target
use Rattle.gpl_defs.specs.declared.instruction.MoveSource.{MoveSource}
use Rattle.gpl_defs.specs.declared.instruction.MoveSource.TheVariants as from
use Rattle.gpl_defs.specs.declared.instruction.GplInstr.{GplInstr}
use Rattle.gpl_defs.specs.declared.instruction.GplInstr.TheVariants.{Plain, Byte, Jump, Branch, One, Two, Move}
use Rattle.gpl_defs.specs.Valid.{is_valid}
use Rattle.gpl_defs.specs.Bytes.{fits_one_byte, fits_twelve_bits, operand_bytes, in_one_byte, in_twelve_bits, in_sixteen_bits}
use Rattle.gpl_defs.specs.Bytes.{source_bytes, length_bytes, target_bytes, from_bytes, rest_of, bytes_of, code_of}
use Rattle.gpl_defs.specs.Spellings.{Spelling, OneByte, TwelveBits, SixteenBits, may_have, spelled, SpellsOperand, Joined}
use Rattle.gpl_defs.specs.Spellings.{SpellsSource, SpellsLength, SpellsTarget, SpellsFrom, SpellsRest, Spells, IsShortest}

-- ---- what is written is a spelling

operand_spells : (operand : GplOperand) → SpellsOperand operand (operand_bytes operand)
operand_spells operand = by (fits_one_byte operand) (fits_twelve_bits operand) refl refl
  where
    by : (one twelve : Bool) → fits_one_byte operand ≡ one → fits_twelve_bits operand ≡ twelve →
        SpellsOperand operand
        (if one then in_one_byte operand else if twelve then in_twelve_bits operand else in_sixteen_bits operand)
    by true twelve e f = record { spelling = OneByte; allowed = e; is = refl }
    by false true e f = record { spelling = TwelveBits; allowed = f; is = refl }
    by false false e f = record { spelling = SixteenBits; allowed = refl; is = refl }

source_spells : (word : Bool) (src : GplSource) → SpellsSource word src (source_bytes word src)
source_spells word (source.At operand) = operand_spells operand
source_spells word (source.Immediate value) = refl

length_spells : (length : MoveLength) → SpellsLength length (length_bytes length)
length_spells (count.At operand) = operand_spells operand
length_spells (count.Immediate number) = refl

target_spells : (to : MoveTarget) → SpellsTarget to (target_bytes to)
target_spells (target.At operand) = operand_spells operand
target_spells (target.Register number) = refl

from_spells : (source : MoveSource) → SpellsFrom source (from_bytes source)
from_spells (from.At operand) = operand_spells operand
from_spells (from.Grom address) = refl
from_spells (from.GromIndexed address index) = refl

joined : {First Second : List ℕ → Type 0} (first second : List ℕ) → First first → Second second →
    Joined First Second (first ++ second)
joined first second is_first is_second =
    record { first = first; second = second; is_first = is_first; is_second = is_second; is = refl }

rest_spells : (instr : GplInstr) → SpellsRest instr (rest_of instr)
rest_spells (Plain op) = refl
rest_spells (Byte op value) = refl
rest_spells (Jump op to) = refl
rest_spells (Branch on offset) = refl
rest_spells (One op word at) = operand_spells at
rest_spells (Two op word dst src) =
    joined (operand_bytes dst) (source_bytes word src) (operand_spells dst) (source_spells word src)
rest_spells (Move length to source) =
    joined (length_bytes length) (target_bytes to ++ from_bytes source) (length_spells length)
    (joined (target_bytes to) (from_bytes source) (target_spells to) (from_spells source))

pub bytes_spell : (instr : GplInstr) → IsTrue (is_valid instr) → Spells instr (bytes_of instr)
bytes_spell instr valid = record { valid = valid; rest = rest_of instr; is_rest = rest_spells instr; is = refl }

-- ---- no spelling has fewer bytes, and no other as few

record Fewest (short bytes : List ℕ) : Type 0 where
  within : length short ≤ length bytes
  alone : length bytes ≡ length short → bytes ≡ short

itself : (short bytes : List ℕ) → bytes ≡ short → Fewest short bytes
itself short bytes same = record { within = omega (arith, ap length same); alone = λ size. same }

fewer : (short bytes : List ℕ) → length short < length bytes → Fewest short bytes
fewer short bytes lt = record { within = omega arith; alone = λ size. absurd (omega arith) }

both : (a b x y : List ℕ) → Fewest a x → Fewest b y → Fewest (a ++ b) (x ++ y)
both a b x y left right =
    let size = length-append a b in
    let size_too = length-append x y in
    record {
      within = omega (arith, left.within, right.within);
      alone = λ same.
          rw (
            left.alone (omega (arith, left.within, right.within)),
            right.alone (omega (arith, left.within, right.within)),
          ) refl;
    }

one_byte_fewest : (operand : GplOperand) (spelling : Spelling) → IsTrue (fits_one_byte operand) →
    Fewest (in_one_byte operand) (spelled spelling operand)
one_byte_fewest operand OneByte fits = itself _ _ refl
one_byte_fewest operand TwelveBits fits = fewer _ _ (omega arith)
one_byte_fewest operand SixteenBits fits = fewer _ _ (omega arith)

spelled_fewest : (operand : GplOperand) (spelling : Spelling) → IsTrue (may_have spelling operand) →
    Fewest (operand_bytes operand) (spelled spelling operand)
spelled_fewest operand spelling allowed = by spelling (fits_one_byte operand) (fits_twelve_bits operand) refl refl allowed
  where
    by : (spelling : Spelling) (one twelve : Bool) → fits_one_byte operand ≡ one → fits_twelve_bits operand ≡ twelve →
        IsTrue (may_have spelling operand) →
        Fewest (if one then in_one_byte operand else if twelve then in_twelve_bits operand else in_sixteen_bits operand)
        (spelled spelling operand)
    by spelling true twelve e f allowed = one_byte_fewest operand spelling e
    by OneByte false twelve e f allowed = absurd (cc)
    by TwelveBits false true e f allowed = itself _ _ refl
    by TwelveBits false false e f allowed = absurd (cc)
    by SixteenBits false true e f allowed = fewer _ _ (omega arith)
    by SixteenBits false false e f allowed = itself _ _ refl

operand_fewest : (operand : GplOperand) (bytes : List ℕ) → SpellsOperand operand bytes →
    Fewest (operand_bytes operand) bytes
operand_fewest operand bytes spells = rw spells.is (spelled_fewest operand spells.spelling spells.allowed)

source_fewest : (word : Bool) (src : GplSource) (bytes : List ℕ) → SpellsSource word src bytes →
    Fewest (source_bytes word src) bytes
source_fewest word (source.At operand) bytes spells = operand_fewest operand bytes spells
source_fewest word (source.Immediate value) bytes spells = itself _ _ spells

length_fewest : (length : MoveLength) (bytes : List ℕ) → SpellsLength length bytes → Fewest (length_bytes length) bytes
length_fewest (count.At operand) bytes spells = operand_fewest operand bytes spells
length_fewest (count.Immediate number) bytes spells = itself _ _ spells

target_fewest : (to : MoveTarget) (bytes : List ℕ) → SpellsTarget to bytes → Fewest (target_bytes to) bytes
target_fewest (target.At operand) bytes spells = operand_fewest operand bytes spells
target_fewest (target.Register number) bytes spells = itself _ _ spells

from_fewest : (source : MoveSource) (bytes : List ℕ) → SpellsFrom source bytes → Fewest (from_bytes source) bytes
from_fewest (from.At operand) bytes spells = operand_fewest operand bytes spells
from_fewest (from.Grom address) bytes spells = itself _ _ spells
from_fewest (from.GromIndexed address index) bytes spells = itself _ _ spells

rest_fewest : (instr : GplInstr) (bytes : List ℕ) → SpellsRest instr bytes → Fewest (rest_of instr) bytes
rest_fewest (Plain op) bytes spells = itself _ _ spells
rest_fewest (Byte op value) bytes spells = itself _ _ spells
rest_fewest (Jump op to) bytes spells = itself _ _ spells
rest_fewest (Branch on offset) bytes spells = itself _ _ spells
rest_fewest (One op word at) bytes spells = operand_fewest at bytes spells
rest_fewest (Two op word dst src) bytes spells =
    rw spells.is
    (both _ _ spells.first spells.second (operand_fewest dst spells.first spells.is_first)
    (source_fewest word src spells.second spells.is_second))
rest_fewest (Move length to source) bytes spells =
    let ends = spells.is_second in
    rw (spells.is, ends.is)
    (both _ _ spells.first _ (length_fewest length spells.first spells.is_first)
    (both _ _ ends.first ends.second (target_fewest to ends.first ends.is_first)
    (from_fewest source ends.second ends.is_second)))

bytes_fewest : (instr : GplInstr) (bytes : List ℕ) → Spells instr bytes → Fewest (bytes_of instr) bytes
bytes_fewest instr bytes spells =
    rw spells.is
    (both (code_of instr ∷ []) (rest_of instr) (code_of instr ∷ []) spells.rest (itself _ _ refl)
    (rest_fewest instr spells.rest spells.is_rest))

-- the bytes that are written are the shortest spelling
pub bytes_shortest : (instr : GplInstr) → IsTrue (is_valid instr) → IsShortest instr (bytes_of instr)
bytes_shortest instr valid = record {
  spells = bytes_spell instr valid;
  fewest = λ other spells. (bytes_fewest instr other spells).within;
  alone = λ other spells size. (bytes_fewest instr other spells).alone size;
}
