-- What the fields of a line are, in the words of the rule.
use Rattle.std.specs.Prelude.{◌≡◌, ℕ, ◌<◌, ◌≤◌, ◌⊎◌, List, length, slice_index, take}
use Rattle.std.specs.Prelude.{map, Option, Some, IsTrue, IsFalse}
use Rattle.std.specs.Prelude.{None, Ok}
use Rattle.source_defs.specs.declared.text.Span.{Span}
use Rattle.source_defs.specs.Characters.{is_blank, is_asterisk, upper_case}
use Rattle.source_defs.specs.Names.{is_name}
use Rattle.source_defs.specs.Fields.{in_quotes, Fields, no_fields, longest_line, fields}

-- only blanks are before the place, and no blank is there
pub record IsWordStart (line : List ℕ) (from start : ℕ) : Type 0 where
  pub after : from ≤ start
  pub within : start ≤ length line
  pub blanks_before : (k : ℕ) → from ≤ k → k < start → IsTrue (is_blank (slice_index line k))
  pub no_blank : start < length line → IsFalse (is_blank (slice_index line start))

-- no blank is before the place, and a blank is there or the line ends
pub record IsWordEnd (line : List ℕ) (from end : ℕ) : Type 0 where
  pub after : from ≤ end
  pub within : end ≤ length line
  pub no_blank_before : (k : ℕ) → from ≤ k → k < end → IsFalse (is_blank (slice_index line k))
  pub blank : end < length line → IsTrue (is_blank (slice_index line end))

-- each blank of the operand field is in quotes, and a blank outside quotes is at its end or the line ends
pub record IsOperandEnd (line : List ℕ) (start end : ℕ) : Type 0 where
  pub after : start ≤ end
  pub within : end ≤ length line
  pub blanks_in_quotes :
      (k : ℕ) → start ≤ k → k < end → IsTrue (is_blank (slice_index line k)) → IsTrue (in_quotes line start k)
  pub blank : end < length line → IsTrue (is_blank (slice_index line end))
  pub outside_quotes : end < length line → IsFalse (in_quotes line start end)

-- a comment: nothing but blanks, or an asterisk in column 1
abbrev pub IsComment : List ℕ → Type 0
IsComment line = IsWordStart line 0 (length line) ⊎ IsTrue (is_asterisk (slice_index line 0))

-- the label is the name that stands from column 1 up to the first blank, in upper case; a blank there is no label
abbrev pub IsLabel : List ℕ → Option (List ℕ) → ℕ → Type 0
IsLabel line (Some name) end =
    IsWordEnd line 0 end × IsTrue (is_name (take end line)) × (name ≡ map upper_case (take end line))
IsLabel line None end = IsTrue (is_blank (slice_index line 0)) × (end ≡ 0)

-- the operation is the first word from a place on; there is none where only blanks follow
abbrev pub IsOperation : List ℕ → ℕ → Option Span → ℕ → Type 0
IsOperation line from (Some span) end =
    IsWordStart line from span.start × (span.start < length line) × IsWordEnd line span.start span.end
    × (end ≡ span.end)
IsOperation line from None end = IsWordStart line from (length line) × (end ≡ length line)

-- label, operation and operand field come one after the other, with blanks alone between them
pub record AreApart (line : List ℕ) (found : Fields) : Type 0 where
  pub label_end : ℕ
  pub operation_end : ℕ
  pub label : IsLabel line found.label label_end
  pub operation : IsOperation line label_end found.operation operation_end
  pub operands_start : IsWordStart line operation_end found.operands.start
  pub operands_end : IsOperandEnd line found.operands.start found.operands.end

-- a comment has no fields, and each other line those that are apart in it
pub record AreFieldsOf (line : List ℕ) (found : Fields) : Type 0 where
  pub short : length line ≤ longest_line
  pub comment : IsComment line → found ≡ no_fields
  pub others : (IsComment line → ⊥) → AreApart line found

-- the law, which is proved
abbrev pub FieldsAreApart : Type 0
FieldsAreApart = (line : List ℕ) (found : Fields) → fields line ≡ Ok found → AreFieldsOf line found
