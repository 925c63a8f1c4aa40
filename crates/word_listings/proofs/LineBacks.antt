-- The lines of a listing, each by itself: what the first checks find in it, and what the second make of it.
use Rattle.std.proofs.Common.{◌≡◌, ◌⊎◌, inl, inr, rules, ℕ, ◌+◌, ◌*◌, ◌%◌, ◌<◌, ◌≤◌, Bool, true, false, List, [], ◌∷◌, ◌++◌}
use Rattle.std.proofs.Common.{length, length-append, take, refl, ap, ◌∙◌, Ok, Option, Some, None, arith}
use Rattle.std.specs.Prelude.{Result, Err, IfSome, map, nat_le, codes, if◌then◌else◌}
use Rattle.std.specs.List.{list_all}
use Rattle.std.proofs.lemmas.Bool.Decides.{nat_tests}
use Rattle.source_defs.specs.Refusals.{◌>>=◌}
use Rattle.source_defs.specs.Digits.{hex_word, hex_byte, word_digits, byte_digits}
use Rattle.source_defs.specs.ListedLines.{listed, with_operands}
use Rattle.expression_defs.specs.Expression.{Value, Absolute}
use Rattle.source_defs.specs.Names.{is_word}
use Rattle.expression_defs.specs.Symbols.{Names}
use Rattle.tms_defs.specs.Instructions.{instr_at, operation_of}
use Rattle.tms_defs.specs.declared.instruction.Instr.{Instr}
use Rattle.tms_defs.specs.declared.instruction.Instr.TheVariants as instr
use Rattle.instruction_defs.specs.declared.causes.FormError.{FormError}
use Rattle.instruction_defs.specs.declared.causes.FormError.TheVariants.{JumpTooFar}
use Rattle.tms_defs.specs.Instructions.{name_of}
use Rattle.instruction_defs.specs.Operands.{size_in_words}
use Rattle.instruction_defs.specs.FirstChecks.{size_of}
use Rattle.instruction_defs.specs.SecondChecks.{second_checks}
use Rattle.instruction_defs.specs.Printed.{instr_text, operands_text, printed, printed_where, printed_word, Printed}
use Rattle.object_defs.specs.declared.spot.Spot.TheVariants as spot
use Rattle.asm_defs.specs.declared.causes.AsmCause.{AsmCause}
use Rattle.asm_defs.specs.declared.causes.AsmCause.TheVariants.{Form}
use Rattle.asm_defs.specs.declared.location.Location.{Location}
use Rattle.asm_defs.specs.declared.location.Part.TheVariants as part
use Rattle.asm_defs.specs.Locations.{after, value_of}
use Rattle.asm_defs.specs.Directives.{directive}
use Rattle.asm_defs.specs.Statements.{Statement, Instruction, Data, Byte, End, operation_statement, as_form}
use Rattle.asm_defs.specs.FirstChecks.{EarlierLines, move, refs_in, defs_in, is_end, lists_too_many, is_bad}
use Rattle.asm_defs.specs.SecondChecks.{Outcome, outcome}
use Rattle.asm_defs.specs.SecondChecks as out
use Rattle.asm_defs.specs.Modules.{title_by}
use Rattle.listed_lines.proofs.DigitLaws.{word_passes, byte_passes}
use Rattle.listed_lines.proofs.OperandLines.{whole, one_text}
use Rattle.listed_lines.proofs.LineTexts.{field_of, plain_byte, number_fit, Cut, Fit, cut_listed, in_line, listed_in_line}
use Rattle.word_listings.specs.Modules.{wraps}
use Rattle.word_listings.proofs.Slots.{known, word_value, byte_value}
use Rattle.word_listings.proofs.Instructions.{names, AreWords, field_back, instr_back}
use Rattle.word_listings.proofs.Instructions.{IsRead, is_read, again, values_unless}

abbrev pub absolute_at : ℕ → Location
absolute_at at = record { part = part.Absolute; number = at }

-- a statement that moves on by a size and does nothing else to the lines after it
pub record IsOwn (at size : ℕ) (last : Bool) (statement : Statement) : Type 0 where
  pub moves : (known : Names) (reached : ℕ) →
      move known (absolute_at at) reached statement ≡ Ok (record { origin = None; gap = 0; size = size; label = value_of (after (absolute_at at) 0) })
  pub refs : refs_in statement ≡ []
  pub defs : defs_in statement ≡ []
  pub last_is : is_end statement ≡ last
  pub few : (before : EarlierLines) → lists_too_many before statement ≡ false
  pub good : (before : EarlierLines) → is_bad before None statement ≡ false
  pub title_kept : (title : List ℕ) → title_by title statement ≡ title

-- a line at an absolute place
pub record LineBack (at : ℕ) (text : List ℕ) (size : ℕ) (last : Bool) (answer : Result Outcome AsmCause) : Type 0 where
  pub name : List ℕ
  pub field : List ℕ
  pub cut : Cut (listed text) name field
  pub no_copy : is_word name (codes "COPY") ≡ false
  pub clean : list_all in_line (listed text) ≡ true
  pub statement : Statement
  pub parses : operation_statement name field ≡ Ok statement
  pub own : IsOwn at size last statement
  pub comes : outcome known (absolute_at at) statement ≡ answer

-- a line by its operation and its operands
line_back : {at size : ℕ} {last : Bool} {answer : Result Outcome AsmCause} (name : List ℕ) (operands : Option (List ℕ)) (statement : Statement)
    → Fit name (field_of operands) → (operands ≡ None) ⊎ (0 < length (field_of operands)) → is_word name (codes "COPY") ≡ false
    → operation_statement name (field_of operands) ≡ Ok statement → IsOwn at size last statement → outcome known (absolute_at at) statement ≡ answer
    → LineBack at (with_operands name operands) size last answer
line_back name operands statement fit some no_copy parses own comes = record {
  name = name;
  field = field_of operands;
  cut = cut_listed name operands fit some;
  no_copy = no_copy;
  clean = listed_in_line name operands fit;
  statement = statement;
  parses = parses;
  own = own;
  comes = comes;
}

-- the words of a line, unless it is a jump that wraps
abbrev pub come_unless : Bool → List ℕ → Result Outcome AsmCause
come_unless true words = Err (Form JumpTooFar)
come_unless false words = Ok (out.Words (map Absolute words))

own_instruction : (at : ℕ) (even : at % 2 ≡ 0) (size : ℕ) (name field : List ℕ) → IsOwn at size false (Instruction size name field)
own_instruction at even size name field = search (rules, even)

own_data : (at : ℕ) (even : at % 2 ≡ 0) (text : List ℕ) → IsOwn at 2 false (Data (text ∷ []))
own_data at even text = search (rules, even)

own_byte : (at : ℕ) (text : List ℕ) → IsOwn at 1 false (Byte (text ∷ []))
own_byte at text = search rules

own_end : (at : ℕ) (text : Option (List ℕ)) → IsOwn at 0 true (End text)
own_end at text = search rules

come_of : (far : Bool) (words : List ℕ) (values : Result (List Value) FormError) → values ≡ values_unless far words
    → (as_form values >>= λ words. Ok (out.Words words)) ≡ come_unless far words
come_of true words values e = rw e refl
come_of false words values e = rw e refl

module _ (at : ℕ) (inside : at < 65536) (even : at % 2 ≡ 0) (word : ℕ) (rest : List ℕ) (are : AreWords (word ∷ rest)) where
  own_place : at % 65536 ≡ at
  own_place = omega (arith, inside)

  instr_line : (found : Instr) → IsRead word found → size_in_words found ≤ length (word ∷ rest)
      → LineBack at (instr_text found at (word ∷ rest)) (2 * size_in_words found) false (come_unless (wraps at (Some found)) (take (size_in_words found) (word ∷ rest)))
  unfolding outcome
  instr_line found is le =
      let f = field_back at inside (word ∷ rest) are found is.room is.signed in
      let b = instr_back (Absolute at) (operation_of found) (operands_text found at (word ∷ rest)) _ f.0 f.2 in
      let n = names (operation_of found) in
      let fit : Fit (name_of (operation_of found)) (field_of (operands_text found at (word ∷ rest))) = record
      { some = n.some; short = n.short; few = b.few; name_plain = n.plain; field_plain = b.is_plain } in
      let size : size_of b.skeleton ≡ 2 * size_in_words found = b.size_is ∙ ap (λ n. 2 * n) f.1 in
      line_back (name_of (operation_of found)) (operands_text found at (word ∷ rest))
      (Instruction (2 * size_in_words found) (name_of (operation_of found)) (field_of (operands_text found at (word ∷ rest)))) fit f.2.some n.no_copy
      (rw (n.no_directive, b.first_is, size) refl) (own_instruction at even (2 * size_in_words found) _ _)
      (come_of (wraps at (Some found)) (take (size_in_words found) (word ∷ rest)) _
      (ap (λ answer. answer >>= λ skeleton. second_checks known (Absolute (at % 65536)) skeleton) b.first_is
      ∙ (ap (λ place. second_checks known (Absolute place) b.skeleton) own_place ∙ (b.second_is ∙ again at word rest found is.encoded le))))

data_line : (at : ℕ) → at % 2 ≡ 0 → (word : ℕ) → word < 65536 → LineBack at (codes "DATA " ++ hex_word word) 2 false (Ok (out.Words (Absolute word ∷ [])))
unfolding outcome directive word_digits
data_line at even word lt =
    line_back (codes "DATA") (Some (hex_word word)) (Data (hex_word word ∷ []))
    (number_fit _ _ (omega arith) (omega arith) refl (omega arith) (word_passes plain_byte word refl refl)) (inr (omega arith)) refl
    (rw (one_text (hex_word word) (omega arith) (word_passes whole word refl refl)) refl) (own_data at even (hex_word word))
    (rw (word_value known (Absolute (at % 65536)) word lt) refl)

pub byte_line : (at : ℕ) (byte : ℕ) → byte < 256 → LineBack at (codes "BYTE " ++ hex_byte byte) 1 false (Ok (out.Bytes (byte ∷ [])))
unfolding outcome directive byte_digits
byte_line at byte lt =
    let small : nat_le byte 0xFF ≡ true = grind (arith, nat_tests, lt) in
    line_back (codes "BYTE") (Some (hex_byte byte)) (Byte (hex_byte byte ∷ []))
    (number_fit _ _ (omega arith) (omega arith) refl (omega arith) (byte_passes plain_byte byte refl refl)) (inr (omega arith)) refl
    (rw (one_text (hex_byte byte) (omega arith) (byte_passes whole byte refl refl)) refl) (own_byte at (hex_byte byte))
    (rw (byte_value known (Absolute (at % 65536)) byte lt, small) refl)

-- the last line, by the entry that it names, and its outcome
abbrev pub end_text : Option ℕ → List ℕ
end_text None = codes "END"
end_text (Some entry) = codes "END " ++ hex_word entry

abbrev pub end_outcome : Option ℕ → Outcome
end_outcome None = out.Nothing
end_outcome (Some entry) = out.Entry (spot.Absolute entry)

-- an entry, where there is one, is an address
abbrev pub IsEntry : Option ℕ → Type 0
IsEntry entry = IfSome entry (λ number. number < 65536)

pub end_line : (at : ℕ) (entry : Option ℕ) → IsEntry entry → LineBack at (end_text entry) 0 true (Ok (end_outcome entry))
unfolding outcome directive word_digits
end_line at None is =
    line_back (codes "END") None (End None) (number_fit _ _ (omega arith) (omega arith) refl (omega arith) refl) (inl refl) refl refl (own_end at None) refl
end_line at (Some entry) is =
    line_back (codes "END") (Some (hex_word entry)) (End (Some (hex_word entry)))
    (number_fit _ _ (omega arith) (omega arith) refl (omega arith) (word_passes plain_byte entry refl refl)) (inr (omega arith)) refl
    (rw (one_text (hex_word entry) (omega arith) (word_passes whole entry refl refl)) refl) (own_end at (Some (hex_word entry)))
    (rw (word_value known (Absolute (at % 65536)) entry is) refl)

-- ---- the line of the words from a place on

-- How many words a line stands for. The line has at most 26 bytes for each, with its blanks and its line feed.
pub record Counts (words text : List ℕ) (count : ℕ) : Type 0 where
  pub some : 0 < count
  pub within : count ≤ length words
  pub short : 8 + length text ≤ 26 * count

with_operands_short : (name : List ℕ) (operands : Option (List ℕ)) → length (with_operands name operands) ≤ length name + (1 + length (field_of operands))
with_operands_short name None = omega arith
with_operands_short name (Some operands) = let l = length-append name (0x20 ∷ operands) in omega (arith, l)

module _ (at : ℕ) (inside : at < 65536) (even : at % 2 ≡ 0) (word : ℕ) (rest : List ℕ) (are : AreWords (word ∷ rest)) where
  abbrev pub WordsBack : Printed → Type 0
  WordsBack front = LineBack at front.text (2 * front.count) false (come_unless (wraps at (instr_at word)) (take front.count (word ∷ rest))) × Counts (word ∷ rest) front.text front.count

  instr_short : (found : Instr) → IsRead word found → 8 + length (instr_text found at (word ∷ rest)) ≤ 26 * size_in_words found
  instr_short found is =
      let f = field_back at inside (word ∷ rest) are found is.room is.signed in
      let n = names (operation_of found) in
      let name = n.short in
      let field = f.2.short in
      let text = with_operands_short (name_of (operation_of found)) (operands_text found at (word ∷ rest)) in
      omega (arith, name, field, text, f.1)

  as_data : (far : Bool) → far ≡ false → LineBack at (printed_word word).text 2 false (come_unless far (take 1 (word ∷ rest))) × Counts (word ∷ rest) (printed_word word).text 1
  unfolding word_digits
  as_data true e = cc e
  as_data false e = (data_line at even word (are 0), record { some = omega arith; within = omega arith; short = omega arith })

  some_words : (found : Instr) → 0 < size_in_words found
  some_words (instr.Two op byte dst src) = omega arith
  some_words _ = omega arith

  -- a jump is one word
  no_part : (found : Instr) → length (word ∷ rest) < size_in_words found → wraps at (Some found) ≡ false
  no_part (instr.Jump op disp) lt = absurd (omega (arith, lt))
  no_part _ lt = refl

  abbrev Front : Option Instr → Printed → Type 0
  Front read front = LineBack at front.text (2 * front.count) false (come_unless (wraps at read) (take front.count (word ∷ rest))) × Counts (word ∷ rest) front.text front.count

  by_fit : (found : Instr) → IsRead word found → (whole : Bool) → nat_le (size_in_words found) (length (word ∷ rest)) ≡ whole
      → Front (Some found) (if whole then record { text = instr_text found at (word ∷ rest); count = size_in_words found } else printed_word word)
  by_fit found is true e =
      let le : size_in_words found ≤ length (word ∷ rest) = grind (arith, nat_tests, e) in
      (instr_line at inside even word rest are found is le, record { some = some_words found; within = le; short = instr_short found is })
  by_fit found is false e =
      let lt : length (word ∷ rest) < size_in_words found = grind (arith, nat_tests, e) in
      as_data (wraps at (Some found)) (no_part found lt)

  by_read : (read : Option Instr) → instr_at word ≡ read → Front read (printed_where read at (word ∷ rest))
  by_read None e = as_data false refl
  by_read (Some found) e = by_fit found (is_read word found (are 0) e) _ refl

  pub words_back : WordsBack (printed (word ∷ rest) at)
  unfolding printed
  words_back = by_read (instr_at word) refl
