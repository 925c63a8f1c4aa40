-- How long a listing is.
use Rattle.std.proofs.Common.{◌≡◌, ℕ, zero, suc, ◌+◌, ◌-◌, ◌*◌, ◌/◌, ◌%◌, ◌<◌, ◌≤◌, Bool, true, false, not, ◌&&◌, List, [], ◌∷◌, ◌++◌}
use Rattle.std.proofs.Common.{length, length-append, refl, sym, subst, Option, ◌≢◌, ◌⊎◌, inl, inr, arith}
use Rattle.std.specs.Prelude.{◌==◌, codes, IsTrue, map, if◌then◌else◌}
use Rattle.std.specs.List.{concat}
use Rattle.std.proofs.lemmas.Bool.{cases_eq}
use Rattle.std.proofs.lemmas.Bool.Decides.{nat_tests}
use Rattle.tms_defs.specs.Bytes.{HoldsBytes}
use Rattle.base_defs.specs.declared.size.TheConstants.{GROM_SIZE}
use Rattle.gpl_defs.specs.declared.instruction.GplOperand.{GplOperand}
use Rattle.gpl_defs.specs.declared.instruction.GplSource.{GplSource}
use Rattle.gpl_defs.specs.declared.instruction.GplSource.TheVariants as source
use Rattle.gpl_defs.specs.declared.instruction.MoveLength.{MoveLength}
use Rattle.gpl_defs.specs.declared.instruction.MoveLength.TheVariants as count
use Rattle.gpl_defs.specs.declared.instruction.MoveTarget.{MoveTarget}
use Rattle.gpl_defs.specs.declared.instruction.MoveTarget.TheVariants as target
use Rattle.gpl_defs.specs.declared.instruction.MoveSource.{MoveSource}
use Rattle.gpl_defs.specs.declared.instruction.MoveSource.TheVariants as from
use Rattle.gpl_defs.specs.declared.instruction.GplInstr.{GplInstr}
use Rattle.gpl_defs.specs.declared.instruction.GplInstr.TheVariants as instr
use Rattle.gpl_defs.specs.Bytes.{bytes_of, operand_bytes, source_bytes, length_bytes, target_bytes, from_bytes}
use Rattle.gpl_defs.specs.Bytes.{fits_one_byte, fits_twelve_bits, in_one_byte, in_twelve_bits, in_sixteen_bits}
use Rattle.gpl_defs.specs.Valid.{is_valid}
use Rattle.gpl_source_defs.specs.Mnemonics.{name_of}
use Rattle.listed_lines.proofs.Scans.{and_left}
use Rattle.gpl_listing_defs.specs.Texts.{mnemonic_of, instr_text}
use Rattle.gpl_listing_defs.specs.Listing.{origin_texts, origin_texts_at, texts_from, texts_between, grom_texts, grom_listing}
use Rattle.gpl_listing_defs.proofs.LineSteps.{no_texts, next_texts}
use Rattle.gpl_listing_defs.specs.Law.{ListingsAreShort}
use Rattle.source_defs.specs.Digits.{word_digits, byte_digits}
use Rattle.source_defs.specs.ListedLines.{listing_line, with_operands}
use Rattle.gpl_listing_defs.specs.Listing.{Listed, listed_at}
use Rattle.listed_lines.proofs.LineTexts.{field_of}
use Rattle.gpl_listing_defs.proofs.Operands.{Token, shown, shown_short, tokens_of, tokens_are}
use Rattle.gpl_listing_defs.proofs.Instructions.{instr_names}
use Rattle.gpl_listing_defs.proofs.Entries.{Entry, Whole, Single, entry_of}

-- ---- an instruction has at least a byte for its code and one for each operand

operand_size : (operand : GplOperand) → 0 < length (operand_bytes operand)
operand_size operand = by (fits_one_byte operand) (fits_twelve_bits operand)
  where
    by : (one twelve : Bool) →
        0 < length (if one then in_one_byte operand else if twelve then in_twelve_bits operand else in_sixteen_bits operand)
    by true twelve = omega arith
    by false true = omega arith
    by false false = omega arith

source_size : (word : Bool) (src : GplSource) → 0 < length (source_bytes word src)
source_size word (source.At operand) = operand_size operand
source_size true (source.Immediate value) = omega arith
source_size false (source.Immediate value) = omega arith

length_size : (counted : MoveLength) → 0 < length (length_bytes counted)
length_size (count.At operand) = operand_size operand
length_size (count.Immediate number) = omega arith

target_size : (to : MoveTarget) → 0 < length (target_bytes to)
target_size (target.At operand) = operand_size operand
target_size (target.Register number) = omega arith

from_size : (place : MoveSource) → 0 < length (from_bytes place)
from_size (from.At operand) = operand_size operand
from_size _ = omega arith

tokens_size : (found : GplInstr) (at : ℕ) → 1 + length (tokens_of found at) ≤ length (bytes_of found)
tokens_size (instr.Plain op) at = omega arith
tokens_size (instr.One op word operand) at = omega (arith, operand_size operand)
tokens_size (instr.Two op word dst src) at =
    omega (arith, operand_size dst, source_size word src, length-append (operand_bytes dst) (source_bytes word src))
tokens_size (instr.Move counted to place) at =
    omega (
      arith,
      length_size counted,
      target_size to,
      from_size place,
      length-append (target_bytes to) (from_bytes place),
      length-append (length_bytes counted) (target_bytes to ++ from_bytes place),
    )
tokens_size _ at = omega arith

with_operands_size : (name : List ℕ) (tokens : List Token) → length name ≤ 6 →
    length (with_operands name (shown tokens)) + 8 ≤ 16 * (1 + length tokens)
with_operands_size name [] short = omega arith
with_operands_size name (token ∷ tokens) short =
    omega (arith, shown_short (token ∷ tokens), length-append name (0x20 ∷ field_of (shown (token ∷ tokens))))

-- the text of an instruction has at most 16 bytes for each of its own, the blanks before it and the line feed included
instr_short : (found : GplInstr) (at : ℕ) → IsTrue (is_valid found) →
    length (instr_text found at) + 8 ≤ 16 * length (bytes_of found)
unfolding instr_text
instr_short found at valid =
    let S : Option (List ℕ) → Type 0 = λ operands. length (with_operands (name_of (mnemonic_of found)) operands) + 8 ≤ 16 * length (bytes_of found) in
    let size = with_operands_size (name_of (mnemonic_of found)) (tokens_of found at) (instr_names found valid).short in
    subst S (sym (tokens_are found at)) (omega (arith, size, tokens_size found at))

-- ---- the length of lines

-- each has seven blanks before its text and a line feed after it
abbrev lines_size : List (List ℕ) → ℕ
lines_size [] = 0
lines_size (text ∷ texts) = length text + 8 + lines_size texts

lines_length : (texts : List (List ℕ)) → length (concat (map listing_line texts)) ≡ lines_size texts
lines_length [] = refl
lines_length (text ∷ texts) =
    let a = length-append text (codes "\n") in
    let b = length-append (listing_line text) (concat (map listing_line texts)) in
    let c = lines_length texts in
    omega arith

lines_both : (some others : List (List ℕ)) → lines_size (some ++ others) ≡ lines_size some + lines_size others
lines_both [] others = omega arith
lines_both (text ∷ some) others = omega (arith, lines_both some others)

origin_size : (at : ℕ) → lines_size (origin_texts at) ≡ 36
unfolding word_digits
origin_size at = refl

module _ (image : List ℕ) (low high : ℕ) (holds : HoldsBytes 65536 image) (top : high ≤ 65536) where
  -- a line goes on, not past the end, and is short
  record Fits (at : ℕ) (line : Listed) : Type 0 where
    some : 0 < line.size
    within : at + line.size ≤ high
    short : length line.text + 8 ≤ 16 * line.size

  fits : (at : ℕ) → at < high → (line : Listed) → Entry image at high line → Fits at line
  unfolding byte_digits
  fits at before_end line (Whole found valid room same ends) = record { some = omega arith; within = omega arith; short = instr_short found at valid }
  fits at before_end line Single = record { some = omega arith; within = omega arith; short = omega arith }

  -- GROM and AORG are written again at most once for each GROM that begins
  origin_few : (at : ℕ) → lines_size (origin_texts_at low at) + 36 * ((at + 8191) / 8192) ≤ 36 * ((at + 8192) / 8192)
  origin_few at = by ((at % GROM_SIZE == 0) && not (at == low)) refl
    where
      by : (test : Bool) → ((at % GROM_SIZE == 0) && not (at == low)) ≡ test →
          lines_size (if test then origin_texts at else []) + 36 * ((at + 8191) / 8192) ≤ 36 * ((at + 8192) / 8192)
      by true e =
          let whole : (at % GROM_SIZE == 0) ≡ true = and_left _ (not (at == low)) e in
          let even : at % 8192 ≡ 0 = grind (arith, nat_tests) in
          rw (origin_size at) (omega arith)
      by false e = omega arith

  from_short_of : (most at : ℕ) → at ≤ high →
      lines_size (texts_from image low high most at) + 36 * ((at + 8191) / 8192) + 16 * at
      ≤ 16 * high + 36 * ((high + 8191) / 8192)
  from_short_of zero at le = omega arith
  from_short_of (suc most) at le = by (cases_eq at high) (λ next within. from_short_of most next within)
    where
      by : (at ≡ high) ⊎ (at ≢ high) →
          ((next : ℕ) → next ≤ high →
          lines_size (texts_from image low high most next) + 36 * ((next + 8191) / 8192) + 16 * next ≤ 16 * high + 36 * ((high + 8191) / 8192)) →
          lines_size (texts_from image low high (suc most) at) + 36 * ((at + 8191) / 8192) + 16 * at ≤ 16 * high + 36 * ((high + 8191) / 8192)
      by (inl same) others = let none = no_texts image low high (suc most) at (omega (arith, same)) in rw none (omega arith)
      by (inr other) others =
          let inside : at < high = omega (arith, le, other) in
          let line = fits at inside _ (entry_of image holds.fits holds.size at high top) in
          let some = line.some in
          let within = line.within in
          let short = line.short in
          let next = at + (listed_at image at high).size in
          let rest = others next within in
          let origin = origin_few at in
          let both = lines_both (origin_texts_at low at) ((listed_at image at high).text ∷ texts_from image low high most next) in
          let same = next_texts image low high most at inside in
          rw same (omega arith)

-- the first address is set by the first two lines alone
first_step : (image : List ℕ) (low high left : ℕ) → HoldsBytes 65536 image → low + left ≡ high → high ≤ 65536 →
    lines_size (texts_from image low high left low) ≤ 16 * left + 252
first_step image low high zero holds ends le = omega arith
first_step image low high (suc left) holds ends le =
    let inside : low < high = omega arith in
    let line = fits image low high holds le low inside _ (entry_of image holds.fits holds.size low high le) in
    let some = line.some in
    let within = line.within in
    let short = line.short in
    let next = low + (listed_at image low high).size in
    let rest = from_short_of image low high holds le left next within in
    let none : origin_texts_at low low ≡ [] = at_first (low % GROM_SIZE == 0) in
    let same = next_texts image low high left low inside in
    rw (same, none) (omega arith)
  where
    at_first : (test : Bool) → (if test && not (low == low) then origin_texts low else []) ≡ []
    at_first true = let same : (low == low) ≡ true = grind (arith, nat_tests) in rw same refl
    at_first false = refl

pub listings_are_short : ListingsAreShort
unfolding grom_listing word_digits
listings_are_short image low high holds order within =
    let size = lines_length (grom_texts image low high) in
    let first = first_step image low high (high - low) holds (omega arith) within in
    let a = lines_both (origin_texts low) (texts_between image low high low ++ codes "END" ∷ []) in
    let b = lines_both (texts_between image low high low) (codes "END" ∷ []) in
    let c = origin_size low in
    omega arith
