-- How a line shows all that its step changed.
use Rattle.std.specs.Prelude.{ℕ, ◌+◌, ◌==◌, ◌&&◌, not, if◌then◌else◌, List, [], ◌∷◌, ◌++◌, codes}
use Rattle.std.specs.Fmt.{decimal}
use Rattle.source_defs.specs.Digits.{hex_word, byte_digits}
use Rattle.gpl_step_defs.specs.declared.cells.TheConstants.{VISIBLE_CELLS}
use Rattle.gpl_step_defs.specs.declared.limits.TheConstants.{VIDEO_REGISTERS}
use Rattle.report_defs.specs.Trace.{ShowsChanges, cell_place, register_place}
use Rattle.change_defs.specs.declared.part.Part.{Part}
use Rattle.change_defs.specs.declared.part.Part.TheVariants.{Cells, Video, Registers}
use Rattle.change_defs.specs.Changes.{Change}
use Rattle.change_defs.specs.Steps.{StepChanges, step_changes}

-- how many bytes a part has
abbrev pub size_of : Part → ℕ
size_of Cells = VISIBLE_CELLS
size_of Video = 16384
size_of Registers = VIDEO_REGISTERS

-- Profile: cells are shown by their addresses, video memory by V and the address, its registers by W and the digit.
abbrev pub place_text : Part → ℕ → List ℕ
place_text Cells at = cell_place at
place_text Video at = codes "V" ++ hex_word at
place_text Registers at = codes "W" ++ register_place at

-- Profile: the same byte at several places in a row is written once, with their number.
unfoldable pub repeated_text : ℕ → ℕ → List ℕ
repeated_text byte count = byte_digits byte ++ (if count == 1 then [] else codes "*" ++ decimal count)

-- Profile: a change is a blank, its place, an equals sign and the new bytes; if the change before it ended at its
-- place, a comma and the new bytes. No change ends at 0.
abbrev pub placed_change : List ℕ → ℕ → Change → List ℕ
placed_change place end c =
    (if (c.at == end) && not (end == 0) then codes "," else codes " " ++ (place ++ codes "="))
    ++ repeated_text c.byte c.count

-- a change, by what gives a place its text
unfoldable pub change_text : (ℕ → List ℕ) → ℕ → Change → List ℕ
change_text place end c = placed_change (place c.at) end c

-- the text of changes, of which the one before ended at a place
abbrev pub change_texts : (ℕ → List ℕ) → ℕ → List Change → List ℕ
change_texts place end [] = []
change_texts place end (c ∷ cs) = change_text place end c ++ change_texts place (c.at + c.count) cs

-- the text of the changes of a part
unfoldable pub part_text : Part → List Change → List ℕ
part_text part cs = change_texts (place_text part) 0 cs

-- Profile: the changes of a step are shown in order of place, first of the cells, then of the video memory
-- and of its registers.
unfoldable pub step_text : StepChanges → List ℕ
step_text made =
    part_text Cells made.cells ++ (part_text Video made.vdp ++ part_text Registers made.registers)

-- all that changed from one state to the next
abbrev pub all_changes_text : ShowsChanges
all_changes_text before after = step_text (step_changes before after)
