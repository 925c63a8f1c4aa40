-- How the changes that a line of `steps` shows are read from its text.
use Rattle.std.specs.Prelude.{ℕ, ◌+◌, ◌-◌, ◌/◌, ◌%◌, Bool, true, false, ◌==◌, ◌||◌, nat_lt, if◌then◌else◌, List, []}
use Rattle.std.specs.Prelude.{◌∷◌, ◌++◌, Option, Some, None}
use Rattle.change_defs.specs.Changes.{Change}
use Rattle.machine_change_defs.specs.declared.area.Area.{Area}
use Rattle.machine_change_defs.specs.declared.area.Area.TheVariants.{Scratchpad, LowExpansion, HighExpansion, Video}
use Rattle.machine_change_defs.specs.declared.area.Area.TheVariants.{Registers}
use Rattle.machine_change_defs.specs.Changes.{RegisterChange, LatchChanges, OtherChanges, MemoryChanges}
use Rattle.debug_report_defs.specs.LineParts.{changes_part}
use Rattle.debug_report_defs.specs.LineFronts.{decimal_value, hexadecimal_value}

-- ---- the pieces of a text

-- a piece begins with a blank, an equals sign, a comma or a line feed, and ends before the next of them
abbrev pub begins_piece : ℕ → Bool
begins_piece byte = (byte == 0x20) || (byte == 0x3D) || (byte == 0x2C) || (byte == 0x0A)

-- the byte that a piece begins with, and what it has after that byte
pub record Piece : Type 0 where
  pub sign : ℕ
  pub text : List ℕ

-- a byte before what was cut
abbrev pub cut_by : Bool → ℕ → List ℕ × List Piece → List ℕ × List Piece
cut_by true byte rest = ([], record { sign = byte; text = rest.0 } ∷ rest.1)
cut_by false byte rest = (byte ∷ rest.0, rest.1)

-- what a text has before its first piece, and its pieces
abbrev pub cut : List ℕ → List ℕ × List Piece
cut [] = ([], [])
cut (byte ∷ bytes) = cut_by (begins_piece byte) byte (cut bytes)

-- ---- what is named before an equals sign

pub data Named : Type 0 where
  Register : ℕ → Named
  Bytes : Area → ℕ → Named
  VideoAddress : Named
  VideoFetched : Named
  VideoHeld : Named
  GromCounter : Named
  GromFetched : Named
  GromHalf : Named
  Unknown : Named

-- the area and the place of an address
abbrev pub addressed : ℕ → Named
addressed at =
    if nat_lt at 0x4000 then Bytes LowExpansion (at - 0x2000)
    else if nat_lt at 0xA000 then Bytes Scratchpad (at - 0x8300)
    else Bytes HighExpansion (at - 0xA000)

-- after V: the address of a byte, or what the port of the video processor holds
abbrev pub video_named : List ℕ → Named
video_named [] = Unknown
video_named (byte ∷ digits) =
    if byte == 0x3E then Bytes Video (hexadecimal_value digits)
    else if byte == 0x41 then VideoAddress
    else if byte == 0x46 then VideoFetched
    else if byte == 0x48 then VideoHeld
    else Unknown

-- after G: what the ports of the GROMs hold
abbrev pub grom_named : List ℕ → Named
grom_named [] = Unknown
grom_named (byte ∷ others) =
    if byte == 0x41 then GromCounter
    else if byte == 0x46 then GromFetched
    else if byte == 0x48 then GromHalf
    else Unknown

-- by the names that lines have: R and the number of a register, > and an address, W and the number of a video register,
-- V> and an address of the video memory, VA, VF and VH, GA, GF and GH
abbrev pub named_by : List ℕ → Named
named_by [] = Unknown
named_by (byte ∷ others) =
    if byte == 0x52 then Register (decimal_value others)
    else if byte == 0x3E then addressed (hexadecimal_value others)
    else if byte == 0x57 then Bytes Registers (hexadecimal_value others)
    else if byte == 0x56 then video_named others
    else if byte == 0x47 then grom_named others
    else Unknown

-- ---- values

-- the bytes of a register's new word
abbrev pub register_value : ℕ → ℕ → RegisterChange
register_value number word = record { number = number; high = word / 256; low = word % 256 }

-- the new byte at a place: two digits; and at how many places it is: the digits after a star, or at one
abbrev pub run_at : ℕ → List ℕ → Change
run_at at (high ∷ low ∷ star ∷ digits) =
    record { at = at; byte = hexadecimal_value (high ∷ low ∷ []); count = decimal_value digits }
run_at at digits = record { at = at; byte = hexadecimal_value digits; count = 1 }

-- no byte is held: -
abbrev pub held_value : List ℕ → Option ℕ
held_value [] = None
held_value (byte ∷ bytes) = if byte == 0x2D then None else Some (hexadecimal_value (byte ∷ bytes))

-- ---- the changes so far

abbrev pub with_register : RegisterChange → MemoryChanges → MemoryChanges
with_register c made = record made { workspace = made.workspace ++ c ∷ [] }

abbrev pub with_run_in : Area → Change → OtherChanges → OtherChanges
with_run_in Scratchpad c made = record made { scratchpad = made.scratchpad ++ c ∷ [] }
with_run_in LowExpansion c made = record made { low_expansion = made.low_expansion ++ c ∷ [] }
with_run_in HighExpansion c made = record made { high_expansion = made.high_expansion ++ c ∷ [] }
with_run_in Video c made = record made { video = made.video ++ c ∷ [] }
with_run_in Registers c made = record made { registers = made.registers ++ c ∷ [] }

abbrev pub with_run : Area → Change → MemoryChanges → MemoryChanges
with_run area c made = record made { others = with_run_in area c made.others }

abbrev pub with_latches : LatchChanges → MemoryChanges → MemoryChanges
with_latches latches made = record made { others = record made.others { latches = latches } }

-- What was read: the changes, the name before an equals sign that is to come, and after bytes of an area the place
-- where the next bytes go on.
pub record Reading : Type 0 where
  pub made : MemoryChanges
  pub name : List ℕ
  pub next : Option (Area × ℕ)

abbrev pub reading : MemoryChanges → Option (Area × ℕ) → Reading
reading made next = record { made = made; name = []; next = next }

-- new bytes of an area
abbrev pub with_bytes_of : Area → Change → MemoryChanges → Reading
with_bytes_of area c made = reading (with_run area c made) (Some (area, c.at + c.count))

-- the value of what is named
abbrev pub with_value : Named → List ℕ → MemoryChanges → Reading
with_value (Register number) text made =
    reading (with_register (register_value number (hexadecimal_value text)) made) None
with_value (Bytes area at) text made = with_bytes_of area (run_at at text) made
with_value VideoAddress text made =
    reading (with_latches (record made.others.latches { video_address = Some (hexadecimal_value text) }) made) None
with_value VideoFetched text made =
    reading (with_latches (record made.others.latches { video_fetched = Some (hexadecimal_value text) }) made) None
with_value VideoHeld text made =
    reading (with_latches (record made.others.latches { video_held = Some (held_value text) }) made) None
with_value GromCounter text made =
    reading (with_latches (record made.others.latches { grom_counter = Some (hexadecimal_value text) }) made) None
with_value GromFetched text made =
    reading (with_latches (record made.others.latches { grom_fetched = Some (hexadecimal_value text) }) made) None
with_value GromHalf text made =
    let is_written = hexadecimal_value text == 1 in
    reading (with_latches (record made.others.latches { grom_half_written = Some is_written }) made) None
with_value Unknown text made = reading made None

-- more bytes where the last ones ended
abbrev pub with_more : Option (Area × ℕ) → List ℕ → MemoryChanges → Reading
with_more (Some (area, at)) text made = with_bytes_of area (run_at at text) made
with_more None text made = reading made None

-- a blank begins a name, an equals sign its value, and a comma more bytes
abbrev pub after_piece : Piece → Reading → Reading
after_piece p r =
    if p.sign == 0x20 then record { made = r.made; name = p.text; next = None }
    else if p.sign == 0x3D then with_value (named_by r.name) p.text r.made
    else if p.sign == 0x2C then with_more r.next p.text r.made
    else r

abbrev pub after_pieces : List Piece → Reading → Reading
after_pieces [] r = r
after_pieces (p ∷ ps) r = after_pieces ps (after_piece p r)

abbrev pub no_latch_changes : LatchChanges
no_latch_changes =
    record {
      video_address = None;
      video_fetched = None;
      video_held = None;
      grom_counter = None;
      grom_fetched = None;
      grom_half_written = None;
    }

abbrev pub no_changes : MemoryChanges
no_changes =
    record {
      workspace = [];
      others =
          record {
            scratchpad = [];
            low_expansion = [];
            high_expansion = [];
            video = [];
            registers = [];
            latches = no_latch_changes;
          };
    }

-- the changes of a line
abbrev pub machine_changes : List ℕ → MemoryChanges
machine_changes line = (after_pieces (cut (changes_part line)).1 (reading no_changes None)).made
