-- The forms of operands.
use Rattle.std.specs.Prelude.{ℕ, ◌+◌, ◌==◌, Bool, if◌then◌else◌, List, slice_index, slice_range, take, drop}
use Rattle.source_defs.specs.Characters.{is_asterisk, is_at_sign}
use Rattle.source_defs.specs.Parentheses.{last_place, opening, has_parentheses}

-- How an operand is written, by the texts of its expressions: an expression alone, *R, *R+, @e, and @e(R).
-- Editor/Assembler manual, "Addressing Modes".
pub data Form : Type 0 where
  Plain : List ℕ → Form
  Indirect : List ℕ → Form
  Increment : List ℕ → Form
  Symbolic : List ℕ → Form
  Indexed : List ℕ → List ℕ → Form

abbrev pub is_plus : ℕ → Bool
is_plus byte = byte == 0x2B

-- the text without its last byte
abbrev pub without_last : List ℕ → List ℕ
without_last text = take (last_place text) text

-- After *: a register, which grows where + is at the end.
abbrev pub starred_form : List ℕ → Form
starred_form text =
    if is_plus (slice_index text (last_place text)) then Increment (without_last text) else Indirect text

-- After @: an address, with an index register where the text ends in parentheses.
-- Profile: it is cut at the first parenthesis that opens outside quotes; one that is elsewhere belongs to an
-- expression, which is refused for it.
abbrev pub symbolic_form : List ℕ → Form
symbolic_form text =
    if has_parentheses text
    then Indexed (take (opening text) text) (slice_range text (opening text + 1) (last_place text))
    else Symbolic text

-- the form of an operand that is not empty
unfoldable pub form_of : List ℕ → Form
form_of text =
    if is_asterisk (slice_index text 0) then starred_form (drop 1 text)
    else if is_at_sign (slice_index text 0) then symbolic_form (drop 1 text)
    else Plain text
