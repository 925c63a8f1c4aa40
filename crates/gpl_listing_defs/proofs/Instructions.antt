-- A printed instruction is read as that instruction again: its name, what the first checks leave of it, how many bytes it
-- takes, and what the second checks find.
use Rattle.std.proofs.Common.{◌≡◌, ℕ, ◌+◌, ◌/◌, ◌%◌, ◌<◌, ◌≤◌, Bool, true, false, ◌||◌, not}
use Rattle.std.proofs.Common.{List, [], ◌∷◌, ◌++◌, length, length-append, refl, ◌∙◌, Ok, Option, Some, None, arith}
use Rattle.std.specs.Prelude.{◌==◌, IsTrue, nat_le}
use Rattle.std.specs.List.{list_all}
use Rattle.std.proofs.lemmas.Bool.Decides.{nat_tests}
use Rattle.source_defs.specs.Digits.{hex_byte, hex_word}
use Rattle.expression_defs.specs.Expression.{Value}
use Rattle.base_defs.specs.Addresses.{in_grom_of}
use Rattle.base_defs.specs.declared.size.TheConstants.{GROM_SIZE}
use Rattle.gpl_defs.specs.declared.scratchpad.TheConstants.{SCRATCHPAD}
use Rattle.gpl_defs.specs.declared.instruction.PlainOp.TheVariants.{RTN}
use Rattle.gpl_defs.specs.declared.instruction.ByteOp.TheVariants.{RAND}
use Rattle.gpl_defs.specs.declared.instruction.GoOp.TheVariants.{B}
use Rattle.gpl_defs.specs.declared.instruction.OneName.TheVariants.{FETCH, PUSH}
use Rattle.gpl_defs.specs.declared.instruction.TwoName.{TwoName}
use Rattle.gpl_defs.specs.declared.instruction.TwoName.TheVariants.{ADD}
use Rattle.gpl_defs.specs.declared.instruction.GplOperand.{GplOperand}
use Rattle.gpl_defs.specs.declared.instruction.GplSource.{GplSource}
use Rattle.gpl_defs.specs.declared.instruction.GplSource.TheVariants as source
use Rattle.gpl_defs.specs.declared.instruction.MoveLength.{MoveLength}
use Rattle.gpl_defs.specs.declared.instruction.MoveLength.TheVariants as count
use Rattle.gpl_defs.specs.declared.instruction.MoveTarget.{MoveTarget}
use Rattle.gpl_defs.specs.declared.instruction.MoveTarget.TheVariants as target
use Rattle.gpl_defs.specs.declared.instruction.MoveSource.{MoveSource}
use Rattle.gpl_defs.specs.declared.instruction.MoveSource.TheVariants as from
use Rattle.gpl_defs.specs.declared.instruction.GplInstr.{GplInstr}
use Rattle.gpl_defs.specs.declared.instruction.GplInstr.TheVariants as instr
use Rattle.gpl_defs.specs.Valid.{has_words, is_valid, is_valid_source, is_valid_move}
use Rattle.gpl_defs.specs.Bytes.{operand_bytes, source_bytes, length_bytes, target_bytes, from_bytes, bytes_of}
use Rattle.gpl_source_defs.specs.declared.location.Location.{Location}
use Rattle.gpl_source_defs.specs.declared.mnemonic.Mnemonic.{Mnemonic}
use Rattle.gpl_source_defs.specs.declared.mnemonic.Mnemonic.TheVariants as named
use Rattle.gpl_source_defs.specs.Directives.{directive}
use Rattle.gpl_source_defs.specs.Forms.{takes_two, takes_move}
use Rattle.gpl_source_defs.specs.Locations.{address_of, branch_offset}
use Rattle.gpl_source_defs.specs.Mnemonics.{name_of, mnemonic}
use Rattle.gpl_source_defs.specs.SecondChecks.{instruction, source_value, length_value, moved, register_of}
use Rattle.gpl_source_defs.specs.Skeletons.{Source, At, Immediate, Route, Within, ToMemory, ToRegisters, Skeleton, Plain, Byte, Jump, Branch, One, Two, Move}
use Rattle.gpl_source_defs.specs.Skeletons.{source_in, route_in, skeleton, source_by_zero, length_by_zero, move_by_zero, size_of}
use Rattle.gpl_source_defs.specs.Values.{checked_byte}
use Rattle.gpl_listing_defs.specs.Texts.{mnemonic_of, value_text}
use Rattle.listed_lines.proofs.LineTexts.{plain_byte, field_of}
use Rattle.gpl_listing_defs.proofs.Operands.{OperandFits, InMemory, Word, Byte as OneByte, form, token_back, written_back, shown}
use Rattle.gpl_listing_defs.proofs.Operands.{source_token, length_token, target_token, from_token, tokens_of, operands_are, index_written}
use Rattle.gpl_listing_defs.proofs.Operands.{word_value, byte_value, index_number, operand_back}

-- ---- names

-- a name that is no directive and names an instruction alone
pub record Names (name : List ℕ) (named : Mnemonic) : Type 0 where
  pub no_directive : directive name ≡ None
  pub reads : mnemonic name ≡ Some named
  pub some : 0 < length name
  pub short : length name ≤ 6
  pub plain : list_all plain_byte name ≡ true

abbrev is_named : Mnemonic → Bool
is_named (named.One op word) = has_words op || not word
is_named _ = true

names : (found : Mnemonic) → IsTrue (is_named found) → Names (name_of found) found
unfolding directive mnemonic
names (named.Plain RTN) valid = record { no_directive = refl; reads = refl; some = omega arith; short = omega arith; plain = refl }
names (named.Byte RAND) valid = record { no_directive = refl; reads = refl; some = omega arith; short = omega arith; plain = refl }
names (named.Jump B) valid = record { no_directive = refl; reads = refl; some = omega arith; short = omega arith; plain = refl }
names (named.Branch true) valid = record { no_directive = refl; reads = refl; some = omega arith; short = omega arith; plain = refl }
names (named.One FETCH true) valid = absurd (cc)
names (named.One PUSH true) valid = absurd (cc)
names (named.One _ true) valid = record { no_directive = refl; reads = refl; some = omega arith; short = omega arith; plain = refl }
names (named.One FETCH false) valid = record { no_directive = refl; reads = refl; some = omega arith; short = omega arith; plain = refl }
names (named.Two ADD true) valid = record { no_directive = refl; reads = refl; some = omega arith; short = omega arith; plain = refl }
names (named.Two ADD false) valid = record { no_directive = refl; reads = refl; some = omega arith; short = omega arith; plain = refl }
names (named.Two _ true) valid = record { no_directive = refl; reads = refl; some = omega arith; short = omega arith; plain = refl }
names _ valid = record { no_directive = refl; reads = refl; some = omega arith; short = omega arith; plain = refl }

pub instr_names : (found : GplInstr) → IsTrue (is_valid found) → Names (name_of (mnemonic_of found)) (mnemonic_of found)
instr_names (instr.One op word operand) valid = names (named.One op word) valid
instr_names found valid = names (mnemonic_of found) refl

-- ---- numbers that have room

abbrev pub SourceFits : Bool → GplSource → Type 0
SourceFits word (source.At operand) = OperandFits operand
SourceFits true (source.Immediate value) = value < 65536
SourceFits false (source.Immediate value) = value < 256

abbrev pub LengthFits : MoveLength → Type 0
LengthFits (count.At operand) = OperandFits operand
LengthFits (count.Immediate number) = number < 65536

abbrev pub TargetFits : MoveTarget → Type 0
TargetFits (target.At operand) = OperandFits operand
TargetFits (target.Register number) = number < 256

abbrev pub FromFits : MoveSource → Type 0
FromFits (from.At operand) = OperandFits operand
FromFits (from.Grom address) = address < 65536
FromFits (from.GromIndexed address index) = (address < 65536) × (index < 256)

abbrev pub InstrFits : GplInstr → Type 0
InstrFits (instr.Plain op) = Unit {0}
InstrFits (instr.Byte op value) = value < 256
InstrFits (instr.Jump op to) = to < 65536
InstrFits (instr.Branch on offset) = offset < 0x2000
InstrFits (instr.One op word operand) = OperandFits operand
InstrFits (instr.Two op word dst src) = OperandFits dst × SourceFits word src
InstrFits (instr.Move length to source) = LengthFits length × TargetFits to × FromFits source

-- ---- what the first checks leave of an instruction at an address

abbrev pub source_left : Bool → GplSource → Source
source_left word (source.At operand) = At operand
source_left word (source.Immediate value) = Immediate (value_text word value)

abbrev pub length_left : MoveLength → Source
length_left (count.At operand) = At operand
length_left (count.Immediate number) = Immediate (hex_word number)

abbrev pub route_left : MoveTarget → MoveSource → Route
route_left (target.At to) (from.At place) = Within to place
route_left (target.At to) (from.Grom address) = ToMemory to (hex_word address) None
route_left (target.At to) (from.GromIndexed address index) = ToMemory to (hex_word address)
    (index_written (Some index))
route_left (target.Register number) (from.Grom address) = ToRegisters (hex_byte number) (hex_word address)
route_left (target.Register number) (from.At place) = ToRegisters (hex_byte number) []
route_left (target.Register number) (from.GromIndexed address index) = ToRegisters (hex_byte number) []

abbrev pub left_of : GplInstr → ℕ → Skeleton
left_of (instr.Plain op) at = Plain op
left_of (instr.Byte op value) at = Byte op (hex_byte value)
left_of (instr.Jump op to) at = Jump op (hex_word to)
left_of (instr.Branch on offset) at = Branch on (hex_word (in_grom_of at offset))
left_of (instr.One op word operand) at = One op word operand
left_of (instr.Two op word dst src) at = Two op word dst (source_left word src)
left_of (instr.Move length to source) at = Move (length_left length) (route_left to source)

-- ---- the first checks

module _ (look : List ℕ → Option Value) (here : ℕ) where
  source_taken : (word : Bool) (src : GplSource) → SourceFits word src →
      source_in look here (form (source_token word src)) ≡ Ok (source_left word src)
  source_taken word (source.At operand) fits = rw (operand_back look here operand fits) refl
  source_taken true (source.Immediate value) fits = refl
  source_taken false (source.Immediate value) fits = refl

  length_taken : (length : MoveLength) → LengthFits length →
      source_in look here (form (length_token length)) ≡ Ok (length_left length)
  length_taken (count.At operand) fits = rw (operand_back look here operand fits) refl
  length_taken (count.Immediate number) fits = refl

  route_taken : (to : MoveTarget) (source : MoveSource) → IsTrue (is_valid_move to source) → TargetFits to →
      FromFits source → route_in look here (form (target_token to)) (form (from_token source)) ≡ Ok (route_left to source)
  route_taken (target.At to) (from.At place) valid fits fits_too =
      rw (operand_back look here to fits, operand_back look here place fits_too) refl
  route_taken (target.At to) _ valid fits fits_too = rw (operand_back look here to fits) refl
  route_taken (target.Register number) (from.Grom address) valid fits fits_too = refl
  route_taken (target.Register number) _ valid fits fits_too = absurd (cc)

  two_allowed : (op : TwoName) (word : Bool) (dst : GplOperand) (src : GplSource) →
      IsTrue (is_valid_source op word src) → takes_two op (form (InMemory dst)) (form (source_token word src)) ≡ true
  two_allowed op true dst (source.At operand) valid = refl
  two_allowed op false dst (source.At operand) valid = refl
  two_allowed op _ dst (source.Immediate value) valid = grind (arith, nat_tests)

  move_allowed : (length : MoveLength) (to : MoveTarget) (source : MoveSource) → IsTrue (is_valid_move to source) →
      takes_move (form (length_token length)) (form (target_token to)) (form (from_token source)) ≡ true
  move_allowed (count.At n) (target.At to) (from.At place) valid = refl
  move_allowed (count.At n) (target.Register number) (from.Grom address) valid = refl
  move_allowed (count.Immediate n) (target.At to) (from.At place) valid = refl
  move_allowed (count.Immediate n) (target.Register number) (from.Grom address) valid = refl
  move_allowed length (target.Register number) _ valid = absurd (cc)
  move_allowed _ _ _ valid = refl

  pub skeleton_back : (found : GplInstr) (at : ℕ) → IsTrue (is_valid found) → InstrFits found →
      skeleton look here (mnemonic_of found) (field_of (shown (tokens_of found at))) ≡ Ok (left_of found at)
  skeleton_back (instr.Plain op) at valid fits = refl
  skeleton_back (instr.Byte op value) at valid fits =
      rw (operands_are (OneByte value) [], (token_back (OneByte value)).formed) refl
  skeleton_back (instr.Jump op to) at valid fits = rw (operands_are (Word to) [], (token_back (Word to)).formed) refl
  skeleton_back (instr.Branch on offset) at valid fits =
      rw (operands_are (Word (in_grom_of at offset)) [], (token_back (Word (in_grom_of at offset))).formed) refl
  skeleton_back (instr.One op word operand) at valid fits =
      rw (
        operands_are (InMemory operand) [],
        written_back (InMemory operand),
        operand_back look here operand fits,
      ) refl
  skeleton_back (instr.Two op word dst src) at valid fits =
      rw (
        operands_are (InMemory dst) (source_token word src ∷ []),
        written_back (InMemory dst),
        written_back (source_token word src),
        two_allowed op word dst src valid,
        operand_back look here dst fits.0,
        source_taken word src fits.1,
      ) refl
  skeleton_back (instr.Move length to source) at valid fits =
      rw (
        operands_are (length_token length) (target_token to ∷ from_token source ∷ []),
        written_back (length_token length),
        written_back (target_token to),
        written_back (from_token source),
        move_allowed length to source valid,
        length_taken length fits.0,
        route_taken to source valid fits.1 fits.2,
      ) refl

-- ---- how many bytes it takes

source_size : (word : Bool) (src : GplSource) →
    length (source_bytes word (source_by_zero (source_left word src))) ≡ length (source_bytes word src)
source_size word (source.At operand) = refl
source_size true (source.Immediate value) = refl
source_size false (source.Immediate value) = refl

length_size : (count : MoveLength) → length (length_bytes (length_by_zero (length_left count))) ≡ length
    (length_bytes count)
length_size (count.At operand) = refl
length_size (count.Immediate number) = refl

move_size : (count : MoveLength) (to : MoveTarget) (source : MoveSource) → IsTrue (is_valid_move to source) →
    length (bytes_of (move_by_zero count (route_left to source))) ≡ length (bytes_of (instr.Move count to source))
move_size count (target.At to) (from.At place) valid = refl
move_size count (target.At to) (from.Grom address) valid =
    simp length-append refl
move_size count (target.At to) (from.GromIndexed address index) valid =
    simp length-append refl
move_size count (target.Register number) (from.Grom address) valid =
    simp length-append refl
move_size count (target.Register number) _ valid = absurd (cc)

pub size_back : (found : GplInstr) (at : ℕ) → IsTrue (is_valid found) → size_of (left_of found at) ≡ length
    (bytes_of found)
size_back (instr.Two op word dst src) at valid =
    omega (
      arith,
      length-append (operand_bytes dst) (source_bytes word src),
      source_size word src,
      length-append (operand_bytes dst) (source_bytes word (source_by_zero (source_left word src))),
    )
size_back (instr.Move counted to source) at valid =
    move_size (length_by_zero (length_left counted)) to source valid
    ∙ omega (
      arith,
      length_size counted,
      length-append (length_bytes counted) (target_bytes to ++ from_bytes source),
      length-append (length_bytes (length_by_zero (length_left counted))) (target_bytes to ++ from_bytes source),
    )
size_back _ at valid = refl

-- ---- the second checks

byte_number : (value : ℕ) → value < 256 → checked_byte value ≡ Ok value
byte_number value lt = let few : nat_le value 0xFF ≡ true = grind (arith, nat_tests) in rw few refl

-- a place lies in the GROM that was set last
pub record InGromOf (at : Location) : Type 0 where
  pub whole : at.grom % 0x2000 ≡ 0
  pub from : at.grom ≤ at.number
  pub below : at.number < at.grom + 0x2000
  pub fits : at.number < 65536

branch_back : (at : Location) (offset : ℕ) → InGromOf at → offset < 0x2000 →
    branch_offset at (in_grom_of at.number offset) ≡ Ok offset
branch_back at offset place lt =
    let same : (in_grom_of at.number offset / GROM_SIZE == at.grom / GROM_SIZE) ≡ true =
    let q : in_grom_of at.number offset / GROM_SIZE ≡ at.grom / GROM_SIZE = omega
    (arith, place.whole, place.from, place.below) in
    grind (arith, nat_tests) in
    let rest : in_grom_of at.number offset % GROM_SIZE ≡ offset = omega arith in
    rw (same, rest) refl

branch_fits : (at offset : ℕ) → at < 65536 → offset < 0x2000 → in_grom_of at offset < 65536
branch_fits at offset lt lt_too = omega arith

module _ (look : List ℕ → Option Value) (at : Location) where
  source_again : (word : Bool) (src : GplSource) → SourceFits word src →
      source_value look at word (source_left word src) ≡ Ok src
  source_again word (source.At operand) fits = refl
  source_again true (source.Immediate value) fits = rw (word_value look (address_of at) value fits) refl
  source_again false (source.Immediate value) fits =
      rw (byte_value look (address_of at) value fits, byte_number value fits) refl

  length_again : (length : MoveLength) → LengthFits length → length_value look at (length_left length) ≡ Ok length
  length_again (count.At operand) fits = refl
  length_again (count.Immediate number) fits = rw (word_value look (address_of at) number fits) refl

  register_number : (n : ℕ) → n < 256 → register_of n ≡ Ok n
  register_number n lt = let few : nat_le n 255 ≡ true = grind (arith, nat_tests) in rw few refl

  moved_again : (count : MoveLength) (to : MoveTarget) (source : MoveSource) → IsTrue (is_valid_move to source) →
      TargetFits to → FromFits source →
      moved look at count (route_left to source) ≡ Ok (instr.Move count to source)
  moved_again count (target.At to) (from.At place) valid fits fits_too = refl
  moved_again count (target.At to) (from.Grom address) valid fits fits_too =
      rw (word_value look (address_of at) address fits_too) refl
  moved_again count (target.At to) (from.GromIndexed address index) valid fits fits_too =
      rw (
        word_value look (address_of at) address fits_too.0,
        word_value look (address_of at) (SCRATCHPAD + index) (omega (arith, fits_too.1)),
        index_number index fits_too.1,
      ) refl
  moved_again count (target.Register number) (from.Grom address) valid fits fits_too =
      rw (
        byte_value look (address_of at) number fits,
        word_value look (address_of at) address fits_too,
        register_number number fits,
      ) refl
  moved_again count (target.Register number) (from.At place) valid fits fits_too = absurd (cc)
  moved_again count (target.Register number) (from.GromIndexed address index) valid fits fits_too = absurd (cc)

  pub instruction_back : (found : GplInstr) → IsTrue (is_valid found) → InstrFits found → InGromOf at →
      instruction look at (left_of found at.number) ≡ Ok found
  instruction_back (instr.Plain op) valid fits place = refl
  instruction_back (instr.Byte op value) valid fits place =
      rw (byte_value look (address_of at) value fits, byte_number value fits) refl
  instruction_back (instr.Jump op to) valid fits place = rw (word_value look (address_of at) to fits) refl
  instruction_back (instr.Branch on offset) valid fits place =
      rw (
        word_value look (address_of at) (in_grom_of at.number offset) (branch_fits at.number offset place.fits fits),
        branch_back at offset place fits,
      ) refl
  instruction_back (instr.One op word operand) valid fits place = refl
  instruction_back (instr.Two op word dst src) valid fits place = rw (source_again word src fits.1) refl
  instruction_back (instr.Move length to source) valid fits place =
      rw (length_again length fits.0, moved_again length to source valid fits.1 fits.2) refl
