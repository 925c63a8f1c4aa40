-- How a line shows all that its instruction changed.
use Rattle.std.specs.Prelude.{ℕ, ◌+◌, Bool, true, false, List, [], ◌++◌, codes, Option, Some, None}
use Rattle.std.specs.List.{flat_map}
use Rattle.std.specs.Fmt.{decimal}
use Rattle.source_defs.specs.Digits.{word_digits, hex_word, byte_digits}
use Rattle.report_defs.specs.Trace.{cell_place, register_place}
use Rattle.change_defs.specs.Changes.{Change}
use Rattle.change_defs.specs.Text.{change_texts}
use Rattle.machine_change_defs.specs.declared.area.Area.{Area}
use Rattle.machine_change_defs.specs.declared.area.Area.TheVariants.{Scratchpad, LowExpansion, HighExpansion}
use Rattle.machine_change_defs.specs.declared.area.Area.TheVariants.{Video, Registers}
use Rattle.machine_change_defs.specs.Changes.{RegisterChange, LatchChanges, OtherChanges, MemoryChanges}

-- Profile: a register of the workspace is shown by its name and its new word.
unfoldable pub register_text : RegisterChange → List ℕ
register_text c = codes " R" ++ (decimal c.number ++ (codes "=" ++ (byte_digits c.high ++ byte_digits c.low)))

-- Profile: memory is shown by its addresses, video memory by V and the address, its registers by W and the digit.
abbrev pub place_text : Area → ℕ → List ℕ
place_text Scratchpad at = cell_place at
place_text LowExpansion at = hex_word (0x2000 + at)
place_text HighExpansion at = hex_word (0xA000 + at)
place_text Video at = codes "V" ++ hex_word at
place_text Registers at = codes "W" ++ register_place at

-- the text of the changes of an area
unfoldable pub area_text : Area → List Change → List ℕ
area_text area cs = change_texts (place_text area) 0 cs

-- Profile: what a port holds is shown by a name and its new value.
abbrev pub latch_text : {T : Type 0} → List ℕ → (T → List ℕ) → Option T → List ℕ
latch_text name text None = []
latch_text name text (Some new) = codes " " ++ (name ++ (codes "=" ++ text new))

-- Profile: - is where no byte is held.
abbrev pub held_text : Option ℕ → List ℕ
held_text None = codes "-"
held_text (Some byte) = byte_digits byte

abbrev pub mark_text : Bool → List ℕ
mark_text false = codes "0"
mark_text true = codes "1"

-- Profile: VA is the address of the video memory, VF the byte that was fetched ahead there, VH the first byte of an
-- address pair; GA is the counter of the GROMs, GF the byte that was fetched ahead there, and GH is 1 where one half of
-- an address was written.
unfoldable pub latches_text : LatchChanges → List ℕ
latches_text made =
    latch_text (codes "VA") word_digits made.video_address
    ++ (latch_text (codes "VF") byte_digits made.video_fetched
    ++ (latch_text (codes "VH") held_text made.video_held
    ++ (latch_text (codes "GA") word_digits made.grom_counter
    ++ (latch_text (codes "GF") byte_digits made.grom_fetched
    ++ latch_text (codes "GH") mark_text made.grom_half_written))))

-- Profile: bytes that the processor addresses are shown in order of area and place.
unfoldable pub bytes_text : OtherChanges → List ℕ
bytes_text made =
    area_text Scratchpad made.scratchpad
    ++ (area_text LowExpansion made.low_expansion ++ area_text HighExpansion made.high_expansion)

-- Profile: then what comes after the ports: video memory, its registers, and what the ports hold.
unfoldable pub ports_text : OtherChanges → List ℕ
ports_text made =
    area_text Video made.video ++ (area_text Registers made.registers ++ latches_text made.latches)

-- Profile: the registers of the workspace are shown first.
unfoldable pub changes_text : MemoryChanges → List ℕ
changes_text made = flat_map register_text made.workspace ++ (bytes_text made.others ++ ports_text made.others)
