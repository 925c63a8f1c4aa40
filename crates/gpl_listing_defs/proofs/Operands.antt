-- The operands of instructions as they are printed, and what the checks find in their texts.
use Rattle.std.proofs.Common.{◌≡◌, ◌⊎◌, inl, inr, ℕ, ◌+◌, ◌-◌, ◌*◌, ◌<◌, ◌≤◌, Bool, true, false, not, List, [], ◌∷◌, ◌++◌}
use Rattle.std.proofs.Common.{length, length-append, refl, ◌∙◌, ap, Ok, Option, Some, None, arith, rules}
use Rattle.std.specs.Prelude.{◌==◌, map, nat_le}
use Rattle.std.specs.List.{list_all}
use Rattle.std.proofs.lemmas.Bool.Decides.{nat_tests}
use Rattle.source_defs.specs.Digits.{hex_word, hex_byte, word_digits, byte_digits}
use Rattle.expression_defs.specs.Expression.{Value}
use Rattle.source_defs.specs.Operands.{operand_texts}
use Rattle.gpl_defs.specs.declared.scratchpad.TheConstants.{SCRATCHPAD}
use Rattle.gpl_defs.specs.declared.instruction.Space.{Space}
use Rattle.gpl_defs.specs.declared.instruction.Space.TheVariants.{Cpu, Vdp}
use Rattle.gpl_defs.specs.declared.instruction.GplOperand.{GplOperand}
use Rattle.gpl_defs.specs.declared.instruction.GplSource.{GplSource}
use Rattle.gpl_defs.specs.declared.instruction.GplSource.TheVariants as source
use Rattle.gpl_defs.specs.declared.instruction.MoveLength.{MoveLength}
use Rattle.gpl_defs.specs.declared.instruction.MoveLength.TheVariants as count
use Rattle.gpl_defs.specs.declared.instruction.MoveTarget.{MoveTarget}
use Rattle.gpl_defs.specs.declared.instruction.MoveTarget.TheVariants as target
use Rattle.gpl_defs.specs.declared.instruction.MoveSource.{MoveSource}
use Rattle.gpl_defs.specs.declared.instruction.MoveSource.TheVariants as from
use Rattle.gpl_defs.specs.declared.instruction.GplInstr.{GplInstr}
use Rattle.gpl_defs.specs.declared.instruction.GplInstr.TheVariants as instr
use Rattle.base_defs.specs.Addresses.{in_grom_of}
use Rattle.gpl_source_defs.specs.Forms.{Form, Memory, form_of, has_index, address_text}
use Rattle.gpl_source_defs.specs.Forms as forms
use Rattle.gpl_source_defs.specs.Skeletons.{written_form}
use Rattle.gpl_source_defs.specs.Values.{held_address, operand, number, index_of, index_value}
use Rattle.gpl_listing_defs.specs.Texts.{prefix, shown_address, index_text, operand_text, source_text, length_text, target_text, from_text}
use Rattle.gpl_listing_defs.specs.Texts.{operands_text}
use Rattle.listed_lines.proofs.Scans.{all_both, unquoted}
use Rattle.listed_lines.proofs.DigitLaws.{digits_pass, word_passes, byte_passes, none_closed, word_tokens, byte_tokens}
use Rattle.listed_lines.proofs.OperandLines.{whole, commas, all_whole, operands_back, opening_is, closes_is}
use Rattle.listed_lines.proofs.LineTexts.{field_of}

-- ---- an address with its index

abbrev rest_of : ℕ → Option ℕ → List ℕ
rest_of a index = hex_word a ++ index_text index

abbrev pub index_written : Option ℕ → Option (List ℕ)
index_written None = None
index_written (Some i) = Some (hex_word (SCRATCHPAD + i))

record RestBack (a : ℕ) (index : Option ℕ) : Type 0 where
  address_is : address_text (rest_of a index) ≡ hex_word a
  index_is : forms.index_text (rest_of a index) ≡ index_written index

rest_back : (a : ℕ) (index : Option ℕ) → RestBack a index
unfolding word_digits
rest_back a None = record { address_is = rw (none_closed a) refl; index_is = rw (none_closed a) refl }
rest_back a (Some i) =
    let inner : List ℕ = 0x40 ∷ hex_word (SCRATCHPAD + i) in
    let quotes : list_all unquoted (rest_of a (Some i)) ≡ true =
    all_both unquoted (hex_word a) (index_text (Some i)) (word_passes unquoted a refl refl)
    (all_both unquoted (hex_word (SCRATCHPAD + i)) (0x29 ∷ []) (word_passes unquoted (SCRATCHPAD + i) refl refl) refl) in
    let own = word_passes (λ byte. not (byte == 0x28)) a refl refl in
    let opens = opening_is (hex_word a) inner quotes own in
    let closes = closes_is (hex_word a) inner quotes own in
    record { address_is = rw (closes, opens) refl; index_is = rw (closes, opens) refl }

-- ---- printed operands

-- an operand as it is printed: one in memory, a word, a byte, a register, and a place in GROM
pub data Token : Type 0 where
  InMemory : GplOperand → Token
  Word : ℕ → Token
  Byte : ℕ → Token
  Register : ℕ → Token
  InGrom : ℕ → Option ℕ → Token

abbrev pub text : Token → List ℕ
text (InMemory held) = operand_text held
text (Word n) = hex_word n
text (Byte n) = hex_byte n
text (Register n) = 0x52 ∷ 0x40 ∷ hex_byte n
text (InGrom a index) = 0x47 ∷ 0x40 ∷ rest_of a index

-- an operand in memory, by the texts of its address and its index
abbrev pub memory_of : GplOperand → Memory
memory_of held = record {
  space = held.space;
  indirect = held.indirect;
  address = hex_word (shown_address held.space held.indirect held.address);
  index = index_written held.index;
}

abbrev pub form : Token → Form
form (InMemory held) = forms.InMemory (memory_of held)
form (Word n) = forms.Alone (hex_word n)
form (Byte n) = forms.Alone (hex_byte n)
form (Register n) = forms.Register (hex_byte n)
form (InGrom a index) = forms.InGrom (hex_word a) (index_written index)

-- a test that each byte of an operand passes
pub record Alphabet (p : ℕ → Bool) : Type 0 where
  pub digits : digits_pass p ≡ true
  pub sign : p 0x3E ≡ true
  pub at_sign : p 0x40 ≡ true
  pub star : p 0x2A ≡ true
  pub video : p 0x56 ≡ true
  pub opens : p 0x28 ≡ true
  pub closes : p 0x29 ≡ true
  pub grom : p 0x47 ≡ true
  pub register : p 0x52 ≡ true

pub record TokenBack (token : Token) : Type 0 where
  pub formed : form_of (text token) ≡ form token
  pub some : 0 < length (text token)
  pub short : length (text token) ≤ 15

memory_back : (space : Space) (indirect : Bool) (a : ℕ) (index : Option ℕ) →
    (form_of (prefix space indirect ++ rest_of a index)
    ≡ forms.InMemory (record { space = space; indirect = indirect; address = hex_word a; index = index_written index }))
    × (0 < length (prefix space indirect ++ rest_of a index)) × (length (prefix space indirect ++ rest_of a index) ≤ 15)
unfolding form_of word_digits
memory_back Cpu false a None = let r = rest_back a None in (rw (r.address_is, r.index_is) refl, omega arith, omega arith)
memory_back Vdp false a None = let r = rest_back a None in (rw (r.address_is, r.index_is) refl, omega arith, omega arith)
memory_back Vdp false a (Some i) = let r = rest_back a (Some i) in (rw (r.address_is, r.index_is) refl, omega arith, omega arith)
memory_back Cpu false a (Some i) = let r = rest_back a (Some i) in (rw (r.address_is, r.index_is) refl, omega arith, omega arith)
memory_back _ _ a None = let r = rest_back a None in (rw (r.address_is, r.index_is) refl, omega arith, omega arith)
memory_back _ _ a (Some i) = let r = rest_back a (Some i) in (rw (r.address_is, r.index_is) refl, omega arith, omega arith)

pub token_back : (token : Token) → TokenBack token
unfolding form_of operand_text word_digits byte_digits
token_back (InMemory held) =
    let m = memory_back held.space held.indirect (shown_address held.space held.indirect held.address) held.index in
    record { formed = m.0; some = m.1; short = m.2 }
token_back (InGrom a None) = let r = rest_back a None in record { formed = rw (r.address_is, r.index_is) refl; some = omega arith; short = omega arith }
token_back (InGrom a (Some i)) = let r = rest_back a (Some i) in record { formed = rw (r.address_is, r.index_is) refl; some = omega arith; short = omega arith }
token_back _ = record { formed = refl; some = omega arith; short = omega arith }

written_text : (text : List ℕ) → 0 < length text → written_form text ≡ Ok (form_of text)
written_text [] some = absurd (omega arith)
written_text (byte ∷ bytes) some = refl

pub written_back : (token : Token) → written_form (text token) ≡ Ok (form token)
written_back token = let b = token_back token in written_text (text token) b.some ∙ ap Ok b.formed

rest_all : (p : ℕ → Bool) → Alphabet p → (a : ℕ) (index : Option ℕ) → list_all p (rest_of a index) ≡ true
rest_all p is a None = all_both p (hex_word a) [] (word_passes p a is.digits is.sign) refl
rest_all p is a (Some i) =
    all_both p (hex_word a) (index_text (Some i)) (word_passes p a is.digits is.sign)
    (rw (is.opens, is.at_sign)
    (all_both p (hex_word (SCRATCHPAD + i)) (0x29 ∷ []) (word_passes p (SCRATCHPAD + i) is.digits is.sign) (rw is.closes refl)))

prefix_all : (p : ℕ → Bool) → Alphabet p → (space : Space) (indirect : Bool) → list_all p (prefix space indirect) ≡ true
prefix_all p is Cpu false = rw is.at_sign refl
prefix_all p is Cpu true = rw is.star refl
prefix_all p is Vdp false = rw (is.video, is.at_sign) refl
prefix_all p is Vdp true = rw (is.video, is.star) refl

token_all : (p : ℕ → Bool) → Alphabet p → (token : Token) → list_all p (text token) ≡ true
unfolding operand_text
token_all p is (InMemory held) =
    all_both p (prefix held.space held.indirect) _ (prefix_all p is held.space held.indirect)
    (rest_all p is (shown_address held.space held.indirect held.address) held.index)
token_all p is (Word n) = word_passes p n is.digits is.sign
token_all p is (Byte n) = byte_passes p n is.digits is.sign
token_all p is (Register n) = rw (is.register, is.at_sign) (byte_passes p n is.digits is.sign)
token_all p is (InGrom a index) = rw (is.grom, is.at_sign) (rest_all p is a index)

-- ---- the operands of an instruction

abbrev pub shown : List Token → Option (List ℕ)
shown [] = None
shown (token ∷ tokens) = Some (commas (text token) (map text tokens))

abbrev pub source_token : Bool → GplSource → Token
source_token word (source.At held) = InMemory held
source_token true (source.Immediate value) = Word value
source_token false (source.Immediate value) = Byte value

abbrev pub length_token : MoveLength → Token
length_token (count.At held) = InMemory held
length_token (count.Immediate number) = Word number

abbrev pub target_token : MoveTarget → Token
target_token (target.At held) = InMemory held
target_token (target.Register number) = Register number

abbrev pub from_token : MoveSource → Token
from_token (from.At held) = InMemory held
from_token (from.Grom address) = InGrom address None
from_token (from.GromIndexed address index) = InGrom address (Some index)

abbrev pub tokens_of : GplInstr → ℕ → List Token
tokens_of (instr.Plain op) at = []
tokens_of (instr.Byte op value) at = Byte value ∷ []
tokens_of (instr.Jump op to) at = Word to ∷ []
tokens_of (instr.Branch on offset) at = Word (in_grom_of at offset) ∷ []
tokens_of (instr.One op word held) at = InMemory held ∷ []
tokens_of (instr.Two op word dst src) at = InMemory dst ∷ source_token word src ∷ []
tokens_of (instr.Move counted to place) at = length_token counted ∷ target_token to ∷ from_token place ∷ []

source_is : (word : Bool) (src : GplSource) → source_text word src ≡ text (source_token word src)
source_is true (source.At held) = refl
source_is false (source.At held) = refl
source_is _ _ = refl

length_is : (counted : MoveLength) → length_text counted ≡ text (length_token counted)
length_is (count.At held) = refl
length_is _ = refl

target_is : (to : MoveTarget) → target_text to ≡ text (target_token to)
target_is (target.At held) = refl
target_is _ = refl

from_is : (place : MoveSource) → from_text place ≡ text (from_token place)
unfolding word_digits
from_is (from.At held) = refl
from_is _ = refl

pub tokens_are : (found : GplInstr) (at : ℕ) → operands_text found at ≡ shown (tokens_of found at)
tokens_are (instr.Two op word dst src) at = rw (source_is word src) refl
tokens_are (instr.Move counted to place) at = rw (length_is counted, target_is to, from_is place) refl
tokens_are _ at = refl

pub few_tokens : (found : GplInstr) (at : ℕ) → length (tokens_of found at) ≤ 3
few_tokens (instr.Plain op) at = omega arith
few_tokens _ at = omega arith

-- ---- a field of operands

fields_all : (p : ℕ → Bool) → Alphabet p → p 0x2C ≡ true → (token : Token) (tokens : List Token) → list_all p (commas (text token) (map text tokens)) ≡ true
fields_all p is comma token [] = token_all p is token
fields_all p is comma token (next ∷ tokens) =
    all_both p (text token) (0x2C ∷ commas (text next) (map text tokens)) (token_all p is token)
    (rw comma (fields_all p is comma next tokens))

pub shown_all : (p : ℕ → Bool) → Alphabet p → p 0x2C ≡ true → (tokens : List Token) → list_all p (field_of (shown tokens)) ≡ true
shown_all p is comma [] = refl
shown_all p is comma (token ∷ tokens) = fields_all p is comma token tokens

-- a field is not empty, and each operand has at most 15 bytes
fields_size : (token : Token) (tokens : List Token) →
    (0 < length (commas (text token) (map text tokens)))
    × (length (commas (text token) (map text tokens)) + 1 ≤ 16 * (1 + length tokens))
fields_size token [] = let b = token_back token in (b.some, omega (arith, b.short))
fields_size token (next ∷ tokens) =
    let b = token_back token in
    let size = length-append (text token) (0x2C ∷ commas (text next) (map text tokens)) in
    let rest = fields_size next tokens in
    (omega (arith, size), omega (arith, size, b.short, rest.1))

pub shown_some : (tokens : List Token) → (shown tokens ≡ None) ⊎ (0 < length (field_of (shown tokens)))
shown_some [] = inl refl
shown_some (token ∷ tokens) = inr (fields_size token tokens).0

pub shown_short : (tokens : List Token) → length (field_of (shown tokens)) ≤ 16 * length tokens - 1
shown_short [] = omega arith
shown_short (token ∷ tokens) = omega (arith, (fields_size token tokens).1)

whole_letters : (tokens : List Token) → all_whole (map text tokens) ≡ true
whole_letters [] = refl
whole_letters (token ∷ tokens) = rw (token_all whole (search rules) token) (whole_letters tokens)

pub operands_are : (token : Token) (tokens : List Token) →
    operand_texts (commas (text token) (map text tokens)) ≡ text token ∷ map text tokens
operands_are token tokens =
    operands_back (text token) (map text tokens) (fields_size token tokens).0 (token_all whole (search rules) token)
    (whole_letters tokens)

-- ---- numbers that have room, and values

abbrev pub IndexFits : Option ℕ → Type 0
IndexFits None = Unit {0}
IndexFits (Some index) = index < 256

pub record OperandFits (held : GplOperand) : Type 0 where
  pub address : held.address < 65536
  pub index : IndexFits held.index

pub word_value : (look : List ℕ → Option Value) (here n : ℕ) → n < 65536 → number look here (hex_word n) ≡ Ok n
word_value look here n lt = rw (word_tokens n lt) refl

pub byte_value : (look : List ℕ → Option Value) (here n : ℕ) → n < 256 → number look here (hex_byte n) ≡ Ok n
byte_value look here n lt = rw (byte_tokens n lt) refl

held_back : (space : Space) (indirect : Bool) (address : ℕ) → address < 65536 →
    (held_address space indirect (shown_address space indirect address) ≡ address) × (shown_address space indirect address < 65536)
held_back Vdp false address lt = (refl, lt)
held_back Vdp true address lt = (omega arith, omega arith)
held_back Cpu indirect address lt = (omega arith, omega arith)

pub index_number : (i : ℕ) → i < 256 → index_of (SCRATCHPAD + i) ≡ Ok i
index_number i lt =
    let from : nat_le SCRATCHPAD (SCRATCHPAD + i) ≡ true = grind (arith, nat_tests) in
    let to : nat_le (SCRATCHPAD + i) (SCRATCHPAD + 255) ≡ true = grind (arith, nat_tests) in
    let back : SCRATCHPAD + i - SCRATCHPAD ≡ i = omega arith in
    rw (from, to, back) refl

index_back : (look : List ℕ → Option Value) (here : ℕ) (index : Option ℕ) → IndexFits index →
    index_value look here (index_written index) ≡ Ok index
index_back look here None fits = refl
index_back look here (Some i) fits = rw (word_value look here (SCRATCHPAD + i) (omega arith), index_number i fits) refl

pub operand_back : (look : List ℕ → Option Value) (here : ℕ) (held : GplOperand) → OperandFits held →
    operand look here (memory_of held) ≡ Ok held
operand_back look here held fits =
    let back = held_back held.space held.indirect held.address fits.address in
    rw (
      word_value look here (shown_address held.space held.indirect held.address) back.1,
      index_back look here held.index fits.index,
      back.0,
    ) refl
