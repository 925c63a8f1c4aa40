-- The form of the interpreter's source: what it does without, so that its words can be read off its lines.
use Rattle.std.specs.Prelude.{
  ◌≡◌,
  ℕ,
  ◌+◌,
  Bool,
  IsTrue,
  true,
  if◌then◌else◌,
  not,
  ◌&&◌,
  ◌||◌,
  nat_eq,
  nat_le,
  List,
  [],
  ◌∷◌,
  ◌++◌,
  length,
  map,
  filter,
  flat_map,
  take,
  drop,
  take_while,
  reverse,
  count_by,
  codes,
  bytes_eq,
}
use Rattle.std.specs.List.{list_all, list_any}
use Rattle.native_interp.specs.declared.source.tables.TheConstants.{TABLE_LINES}
use Rattle.native_interp.specs.declared.source.routines.TheConstants.{ROUTINE_LINES}
use Rattle.native_interp.specs.declared.source.operations.TheConstants.{OPERATION_LINES}
use Rattle.native_interp.specs.declared.source.flow.TheConstants.{FLOW_LINES}
use Rattle.native_interp.specs.declared.source.copy.TheConstants.{COPY_LINES}

-- the five parts of the source, one after the other
abbrev pub lines : List (List ℕ)
lines =
    map (λ line. line.now) TABLE_LINES
    ++ (map (λ line. line.now) ROUTINE_LINES
    ++ (map (λ line. line.now) OPERATION_LINES
    ++ (map (λ line. line.now) FLOW_LINES ++ map (λ line. line.now) COPY_LINES)))

-- the text of the source: each line with its line feed
abbrev pub source : List ℕ
source = flat_map (λ line. line ++ 0x0A ∷ []) lines

-- At most 64 characters, each of them printable: so no line feed and no carriage return is among them.
abbrev pub is_short_text : List ℕ → Bool
is_short_text line = nat_le (length line) 64 && list_all (λ byte. nat_le 0x20 byte && nat_le byte 0x7E) line

-- An asterisk in column 1 makes a line a comment.
abbrev pub is_statement : List ℕ → Bool
is_statement line = not (bytes_eq (take 1 line) (codes "*"))

abbrev pub statements : List (List ℕ)
statements = filter is_statement lines

abbrev pub is_blank : ℕ → Bool
is_blank byte = nat_eq byte 0x20

-- what stands up to the first blank
abbrev pub word_of : List ℕ → List ℕ
word_of text = take_while (λ byte. not (is_blank byte)) text

-- A label has at most six characters from column 1 on, blanks come after it up to column 7, and what
-- begins in column 8 is no blank.
abbrev pub stands_in_columns : List ℕ → Bool
stands_in_columns line =
    let label = word_of (take 7 line) in
    nat_le (length label) 6 && list_all is_blank (drop (length label) (take 7 line)) &&
    not (list_any is_blank (take 1 (drop 7 line)))

-- The letters are capitals.
abbrev pub has_capitals : List ℕ → Bool
has_capitals line = not (list_any (λ byte. nat_le 0x61 byte && nat_le byte 0x7A) line)

-- The operation begins in column 8.
abbrev pub has_operation : List ℕ → List ℕ → Bool
has_operation line operation = bytes_eq (word_of (drop 7 line)) operation

-- Directives that link, move or reserve, or place less than a word.
abbrev pub left_out : List (List ℕ)
left_out =
    codes "REF" ∷ codes "DEF" ∷ codes "RORG" ∷ codes "DORG" ∷ codes "BSS" ∷ codes "BES" ∷ codes "EVEN" ∷ codes "BYTE" ∷
    codes "TEXT" ∷ []

abbrev pub is_hexadecimal_digit : ℕ → Bool
is_hexadecimal_digit byte = (nat_le 0x30 byte && nat_le byte 0x39) || (nat_le 0x41 byte && nat_le byte 0x46)

-- The value of EQU is a number of four hexadecimal digits, and nothing comes after it.
abbrev pub names_a_number : List ℕ → Bool
names_a_number line =
    not (has_operation line (codes "EQU")) ||
    (bytes_eq (take 5 (drop 7 line)) (codes "EQU >") && nat_eq (length line) 16 &&
    list_all is_hexadecimal_digit (drop 12 line))

-- A DATA line has at most three words, which are between commas. An instruction has no more.
abbrev pub has_three_words : List ℕ → Bool
has_three_words line = not (has_operation line (codes "DATA")) || nat_le (count_by (nat_eq 0x2C) line) 2

abbrev pub is_operator : ℕ → Bool
is_operator byte = nat_eq byte 0x2A || nat_eq byte 0x2B || nat_eq byte 0x2D || nat_eq byte 0x2F

-- An asterisk that begins an operand and a plus that ends one are signs of its addressing mode: no expression begins or
-- ends so.
abbrev pub ends_operand : List ℕ → Bool
ends_operand [] = true
ends_operand (byte ∷ rest) = nat_eq byte 0x2C

abbrev pub is_mode_sign : ℕ → ℕ → List ℕ → Bool
is_mode_sign before byte after =
    (nat_eq byte 0x2A && (nat_eq before 0x20 || nat_eq before 0x2C)) || (nat_eq byte 0x2B && ends_operand after)

-- how many operators come after a byte
abbrev pub operators_after : ℕ → List ℕ → ℕ
operators_after before [] = 0
operators_after before (byte ∷ rest) =
    if is_operator byte && not (is_mode_sign before byte rest)
    then 1 + operators_after byte rest
    else operators_after byte rest

abbrev pub statement_is_in_form : List ℕ → Bool
statement_is_in_form line =
    stands_in_columns line && has_capitals line && not (list_any (has_operation line) left_out) &&
    names_a_number line && has_three_words line && nat_le (operators_after 0x20 line) 1

pub record LinesAreInForm : Type 0 where
  pub short : IsTrue (list_all is_short_text lines)
  pub begin_at_2000 : take 1 statements ≡ codes "       AORG >2000" ∷ []
  pub one_origin : count_by (λ line. has_operation line (codes "AORG")) statements ≡ 1
  pub plain : IsTrue (list_all statement_is_in_form statements)
  pub end : take 1 (reverse lines) ≡ codes "       END GBOOT" ∷ []
