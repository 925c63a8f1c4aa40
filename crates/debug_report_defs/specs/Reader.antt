-- How the changes that a line of `gsteps` shows are read from its text, byte by byte.
use Rattle.std.specs.Prelude.{ℕ, ◌+◌, ◌-◌, ◌*◌, ◌==◌, if◌then◌else◌, List, [], ◌∷◌, ◌++◌}
use Rattle.source_defs.specs.Numbers.{is_hexadecimal_digit, digit_value}
use Rattle.change_defs.specs.declared.part.Part.{Part}
use Rattle.change_defs.specs.declared.part.Part.TheVariants.{Cells, Video, Registers}
use Rattle.change_defs.specs.Changes.{Change}
use Rattle.change_defs.specs.Steps.{StepChanges}
use Rattle.debug_report_defs.specs.LineParts.{changes_part}

-- what a byte of the text is
pub data Sign : Type 0 where
  Digit : ℕ → Sign
  Star : Sign
  Comma : Sign
  Blank : Sign
  Equals : Sign
  LetterV : Sign
  LetterW : Sign
  Other : Sign

abbrev pub sign_of : ℕ → Sign
sign_of byte =
    if is_hexadecimal_digit byte then Digit (digit_value byte)
    else if byte == 0x2A then Star
    else if byte == 0x2C then Comma
    else if byte == 0x20 then Blank
    else if byte == 0x3D then Equals
    else if byte == 0x56 then LetterV
    else if byte == 0x57 then LetterW
    else Other

-- which number is read: none, a place, a new byte, or the number of its places
pub data Phase : Type 0 where
  Nothing : Phase
  Place : Phase
  Byte : Phase
  Times : Phase

-- What was read: the changes before the last; and of the last its part, its place, its byte and the number so far.
pub record Reading : Type 0 where
  pub made : StepChanges
  pub part : Part
  pub at : ℕ
  pub byte : ℕ
  pub number : ℕ
  pub phase : Phase

abbrev pub with_change : Part → Change → StepChanges → StepChanges
with_change Cells c made = record made { cells = made.cells ++ c ∷ [] }
with_change Video c made = record made { vdp = made.vdp ++ c ∷ [] }
with_change Registers c made = record made { registers = made.registers ++ c ∷ [] }

-- between two changes, at a place
abbrev pub between : StepChanges → Part → ℕ → Reading
between made part at = record { made = made; part = part; at = at; byte = 0; number = 0; phase = Nothing }

abbrev pub with_last : Reading → ℕ → ℕ → Reading
with_last r byte count =
    between (with_change r.part (record { at = r.at; byte = byte; count = count }) r.made) r.part (r.at + count)

-- the last change is complete
abbrev pub ended_in : Phase → Reading → Reading
ended_in Nothing r = between r.made r.part r.at
ended_in Place r = between r.made r.part r.at
ended_in Byte r = with_last r r.number 1
ended_in Times r = with_last r r.byte r.number

abbrev pub ended : Reading → Reading
ended r = ended_in r.phase r

abbrev pub base_in : Phase → ℕ
base_in Times = 10
base_in phase = 16

abbrev pub first_place : Part → ℕ
first_place Cells = 0x8300
first_place Video = 0
first_place Registers = 0

abbrev pub after_sign : Sign → Reading → Reading
after_sign (Digit digit) r = record r { number = r.number * base_in r.phase + digit }
after_sign Star r = record r { byte = r.number; number = 0; phase = Times }
after_sign Comma r = record (ended r) { phase = Byte }
after_sign Blank r = record (ended r) { part = Cells; phase = Place }
after_sign Equals r = record r { at = r.number - first_place r.part; number = 0; phase = Byte }
after_sign LetterV r = record r { part = Video }
after_sign LetterW r = record r { part = Registers }
after_sign Other r = r

abbrev pub read_from : Reading → List ℕ → Reading
read_from r [] = r
read_from r (byte ∷ bytes) = read_from (after_sign (sign_of byte) r) bytes

-- the changes of a text
abbrev pub changes_of_text : List ℕ → StepChanges
changes_of_text text =
    (ended (read_from (between (record { cells = []; vdp = []; registers = [] }) Cells 0) text)).made

-- the changes of a line
abbrev pub changes_of_line : List ℕ → StepChanges
changes_of_line line = changes_of_text (changes_part line)
