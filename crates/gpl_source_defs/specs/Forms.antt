-- The forms of operands.
use Rattle.std.specs.Prelude.{ℕ, ◌+◌, ◌==◌, Bool, true, false, ◌&&◌, ◌||◌, if◌then◌else◌, List, slice_index}
use Rattle.std.specs.Prelude.{slice_range, take, drop, Option, Some, None}
use Rattle.source_defs.specs.Characters.{is_asterisk, is_at_sign, upper_case}
use Rattle.source_defs.specs.Parentheses.{last_place, opening, has_parentheses}
use Rattle.gpl_defs.specs.declared.instruction.Space.{Space}
use Rattle.gpl_defs.specs.declared.instruction.Space.TheVariants.{Cpu, Vdp}
use Rattle.gpl_defs.specs.declared.instruction.TwoName.{TwoName}
use Rattle.gpl_defs.specs.Valid.{has_immediate}

-- an operand in memory, by the texts of its address and of its index
pub record Memory : Type 0 where
  pub space : Space
  pub indirect : Bool
  pub address : List ℕ
  pub index : Option (List ℕ)

-- Profile: how an operand is written, by the texts of its expressions: in memory; in GROM, with an index or without;
-- a register of the video processor; and an expression alone.
pub data Form : Type 0 where
  InMemory : Memory → Form
  InGrom : List ℕ → Option (List ℕ) → Form
  Register : List ℕ → Form
  Alone : List ℕ → Form

-- the letters V, G and R, in upper case
abbrev pub video_letter : ℕ
video_letter = 0x56

abbrev pub grom_letter : ℕ
grom_letter = 0x47

abbrev pub register_letter : ℕ
register_letter = 0x52

-- The text ends with an index in parentheses, which begins with @.
-- Profile: it is cut at the first parenthesis that opens outside quotes; one that is elsewhere belongs to an
-- expression, which is refused for it.
abbrev pub has_index : List ℕ → Bool
has_index text = has_parentheses text && is_at_sign (slice_index text (opening text + 1))

abbrev pub address_text : List ℕ → List ℕ
address_text text = if has_index text then take (opening text) text else text

abbrev pub index_text : List ℕ → Option (List ℕ)
index_text text = if has_index text then Some (slice_range text (opening text + 2) (last_place text)) else None

abbrev pub in_memory : Space → Bool → List ℕ → Form
in_memory space indirect text =
    InMemory (record { space = space; indirect = indirect; address = address_text text; index = index_text text })

-- the form of an operand that begins with a letter, by that letter in upper case, the sign after it and the rest
abbrev pub signed_form : List ℕ → ℕ → ℕ → List ℕ → Form
signed_form text letter sign rest =
    if (letter == video_letter) && is_at_sign sign then in_memory Vdp false rest
    else if (letter == video_letter) && is_asterisk sign then in_memory Vdp true rest
    else if (letter == grom_letter) && is_at_sign sign then InGrom (address_text rest) (index_text rest)
    else if (letter == register_letter) && is_at_sign sign then Register rest
    else Alone text

abbrev pub lettered_form : List ℕ → Form
lettered_form text = signed_form text (upper_case (slice_index text 0)) (slice_index text 1) (drop 2 text)

-- Profile: the form of an operand, by what it begins with: @e and *e lie in the processor's memory, V@e and V*e in
-- the video processor's, of which *e and V*e go by a pointer; G@e lies in GROM, and R@e is a register. Letters are
-- taken as upper case, and V* is no product.
unfoldable pub form_of : List ℕ → Form
form_of text =
    if is_at_sign (slice_index text 0) then in_memory Cpu false (drop 1 text)
    else if is_asterisk (slice_index text 0) then in_memory Cpu true (drop 1 text)
    else lettered_form text

abbrev pub is_in_memory : Form → Bool
is_in_memory (InMemory memory) = true
is_in_memory _ = false

abbrev pub is_alone : Form → Bool
is_alone (Alone text) = true
is_alone _ = false

-- The forms that an operation on two operands takes: its destination in memory, its source in memory or immediate.
-- GPL Programmer's Guide, the statements with two operands.
abbrev pub takes_two : TwoName → Form → Form → Bool
takes_two op to from = is_in_memory to && (is_in_memory from || (is_alone from && has_immediate op))

-- The targets and sources that MOVE takes together. Profile: registers are loaded from GROM without an index.
abbrev pub is_route : Form → Form → Bool
is_route (InMemory to) (InMemory from) = true
is_route (InMemory to) (InGrom address index) = true
is_route (Register number) (InGrom address None) = true
is_route to from = false

abbrev pub takes_move : Form → Form → Form → Bool
takes_move length to from = (is_in_memory length || is_alone length) && is_route to from
