-- The fields of a line.
--
-- Editor/Assembler manual, "Source statement format": a label starts in column 1. Then stand, apart by blanks, the
-- operation, the operand field and a comment. A line with an asterisk in column 1 is a comment.
use Rattle.std.specs.Prelude.{ℕ, ◌<◌, ◌≤◌, ◌%◌, ◌==◌, Bool, not, ◌&&◌, ◌||◌, nat_lt, if◌then◌else◌}
use Rattle.std.specs.Prelude.{List, length, slice_index, slice_range, take, map, count_by}
use Rattle.std.specs.Prelude.{Option, Some, None, Result, Ok, Err, IsFalse}
use Rattle.source_defs.specs.declared.text.Span.{Span}
use Rattle.source_defs.specs.declared.causes.TextError.{TextError}
use Rattle.source_defs.specs.declared.causes.TextError.TheVariants.{LineTooLong, BadLabel}
use Rattle.source_defs.specs.Characters.{is_blank, is_quote, is_asterisk, upper_case}
use Rattle.source_defs.specs.Least.{least_place, end_of}
use Rattle.source_defs.specs.Names.{is_name}

-- from a place on, the first byte that is no blank, or the line's end
abbrev pub word_start : List ℕ → ℕ → ℕ
word_start line from = end_of is_blank line from

-- from a place on, the first blank, or the line's end
abbrev pub word_end : List ℕ → ℕ → ℕ
word_end line from = least_place (λ k. is_blank (slice_index line k)) line from

-- an odd number of quotes stands from a place up to another
unfoldable pub in_quotes : List ℕ → ℕ → ℕ → Bool
in_quotes line from to = count_by is_quote (slice_range line from to) % 2 == 1

-- a blank outside the quotes of a field that starts at a place
abbrev pub ends_field : List ℕ → ℕ → ℕ → Bool
ends_field line start k = is_blank (slice_index line k) && not (in_quotes line start k)

-- The operand field goes up to a blank outside quotes, or to the line's end. Profile: quotes that are not closed go to
-- the line's end too.
abbrev pub operand_end : List ℕ → ℕ → ℕ
operand_end line start = least_place (ends_field line start) line start

-- what is in a line: the label's name in upper case, and where the operation and the operand field are
pub record Fields : Type 0 where
  pub label : Option (List ℕ)
  pub operation : Option Span
  pub operands : Span

-- Profile: a blank line is a comment too.
abbrev pub is_comment : List ℕ → Bool
is_comment line = (word_start line 0 == length line) || is_asterisk (slice_index line 0)

abbrev pub no_fields : Fields
no_fields = record { label = None; operation = None; operands = record { start = 0; end = 0 } }

-- the fields of a line whose label, if it has one, ends at a place
abbrev pub fields_after : List ℕ → Option (List ℕ) → ℕ → Fields
fields_after line label from =
    let operation = word_start line from in
    let operation_end = word_end line operation in
    let operands = word_start line operation_end in
    record {
      label = label;
      operation =
          if nat_lt operation (length line) then Some (record { start = operation; end = operation_end }) else None;
      operands = record { start = operands; end = operand_end line operands };
    }

-- the label field: up to the first blank
abbrev pub label_field : List ℕ → List ℕ
label_field line = take (word_end line 0) line

-- Profile: a line has at most 256 bytes, and that is asked first.
abbrev pub longest_line : ℕ
longest_line = 256

-- Profile: the letters of a label are taken as upper case.
unfoldable pub fields : List ℕ → Result Fields TextError
fields line =
    if nat_lt longest_line (length line) then Err LineTooLong
    else if is_comment line then Ok no_fields
    else if is_blank (slice_index line 0) then Ok (fields_after line None 0)
    else if is_name (label_field line)
    then Ok (fields_after line (Some (map upper_case (label_field line))) (word_end line 0))
    else Err BadLabel

-- column 1 holds neither a blank nor an asterisk, and the label field is no name
pub record HasBadLabel (line : List ℕ) : Type 0 where
  pub fits : length line ≤ longest_line
  pub written : 0 < length line
  pub no_blank : IsFalse (is_blank (slice_index line 0))
  pub no_asterisk : IsFalse (is_asterisk (slice_index line 0))
  pub no_name : IsFalse (is_name (label_field line))
