-- The first changes of a step, by the part that they are in.
use Rattle.std.specs.Prelude.{ℕ, List, codes}
use Rattle.source_defs.specs.Digits.{hex_word}
use Rattle.report_defs.specs.Trace.{cell_place, register_place, changed_text}
use Rattle.change_defs.specs.declared.part.Part.{Part}
use Rattle.change_defs.specs.declared.part.Part.TheVariants.{Cells, Video, Registers}

-- what the changes of a part begin with
abbrev pub part_label : Part → List ℕ
part_label Cells = codes " C"
part_label Video = codes " V"
part_label Registers = codes " W"

-- a place of a part
abbrev pub part_place : Part → ℕ → List ℕ
part_place Cells = cell_place
part_place Video = hex_word
part_place Registers = register_place

-- how many bytes of a part changed, and the first of them
abbrev pub first_text : Part → List ℕ → List ℕ → List ℕ
first_text part before after = changed_text (part_label part) (part_place part) before after
