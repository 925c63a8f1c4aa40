-- The module of a source.
use Rattle.std.specs.Prelude.{ℕ, nat_lt, if◌then◌else◌, List, [], ◌∷◌, map, Option, Some, None, Result, Ok, Err}
use Rattle.source_defs.specs.Refusals.{Refusal, ◌>>=◌}
use Rattle.expression_defs.specs.Expression.{Value, Absolute, Relocatable}
use Rattle.expression_defs.specs.Symbols.{Names, look_up}
use Rattle.source_defs.specs.Lines.{numbered, line_texts}
use Rattle.expression_defs.specs.Layout.{line_layout, assembled_lines}
use Rattle.object_defs.specs.declared.spot.Spot.{Spot}
use Rattle.object_defs.specs.declared.spot.Spot.TheVariants as spot
use Rattle.object_defs.specs.Digits.{padded}
use Rattle.object_defs.specs.Modules.{Module, Definition, Reference, most_words}
use Rattle.asm_defs.specs.declared.causes.AsmCause.{AsmCause}
use Rattle.asm_defs.specs.declared.causes.AsmCause.TheVariants.{Overflow, Overlap}
use Rattle.asm_defs.specs.declared.location.Location.{Location}
use Rattle.asm_defs.specs.Statements.{Statement, Idt}
use Rattle.asm_defs.specs.Locations.{Line, place, reached}
use Rattle.asm_defs.specs.FirstChecks.{check, title_in, names, refs, defs}
use Rattle.asm_defs.specs.SecondChecks.{Outcome, Entry, outcome}
use Rattle.asm_defs.specs.Memory.{AssembledLine, word_count, overlaps, references_of, pieces}

-- Whether what a line places has room after others. Profile: the 32,769th word comes first, then a byte that was
-- placed before.
abbrev pub with_room : List AssembledLine → AssembledLine → Result AssembledLine AsmCause
with_room earlier line =
    if nat_lt most_words (word_count (line ∷ earlier)) then Err Overflow
    else if overlaps earlier line then Err Overlap
    else Ok line

-- The second checks of what a line says at a place after others, by all names: its values and their ranges, then its
-- room.
abbrev pub assembled_at : Names → Location → Statement → List AssembledLine → Result AssembledLine AsmCause
assembled_at known at statement earlier = do
  found ← outcome (look_up known) at statement
  with_room earlier (record { at = at; outcome = found })

abbrev pub assembled_line : Names → List Line → List AssembledLine → Line → Result AssembledLine AsmCause
assembled_line known before earlier line = assembled_at known (place before line) line.statement earlier

-- Editor/Assembler manual, "Program Identifier". Profile: a later name replaces an earlier one, and blanks fill it up.
abbrev pub title_by : List ℕ → Statement → List ℕ
title_by title (Idt text) = title_in text
title_by title _ = title

abbrev pub title : List Line → List ℕ
title [] = padded 8 []
title (line ∷ before) = title_by (title before) line.statement

-- the spot that a name stands for
abbrev pub spot_of : Option Value → Spot
spot_of (Some (Absolute number)) = spot.Absolute number
spot_of (Some (Relocatable number)) = spot.Relocatable number
spot_of _ = spot.Absolute 0

-- a name of DEF with what it stands for
abbrev pub definition_in : Names → List ℕ → Definition
definition_in known name = record { name = name; value = spot_of (look_up known name) }

-- The entry that END gives. Profile: a source whose last line is no END is a module without an entry.
abbrev pub entry_by : Option Spot → Outcome → Option Spot
entry_by entry (Entry found) = Some found
entry_by entry _ = entry

abbrev pub entry : List AssembledLine → Option Spot
entry [] = None
entry (line ∷ before) = entry_by (entry before) line.outcome

-- a name of REF before its first use
abbrev pub unused : List ℕ → Reference
unused name = record { name = name; last = spot.Absolute 0 }

-- The module of lines that no check refuses.
abbrev pub module_by : List Line → List AssembledLine → Module
module_by lines assembled_lines =
    let references = map unused (refs lines) in
    record {
      name = title lines;
      size = reached lines;
      pieces = pieces references assembled_lines;
      defs = map (definition_in (names lines)) (defs lines);
      refs = references_of references assembled_lines;
      entry = entry assembled_lines;
    }

abbrev pub module_after : List Line → Result Module (Refusal AsmCause)
module_after lines = assembled_lines (assembled_line (names lines)) lines >>= λ found. Ok (module_by lines found)

-- the module of numbered lines, or the first that is refused: by the first checks, else by the second
abbrev pub module_of : List (ℕ × List ℕ) → Result Module (Refusal AsmCause)
module_of lines = do
  found ← line_layout check lines
  module_after found

-- the module of some lines, which count from 1
abbrev pub module_of_lines : List (List ℕ) → Result Module (Refusal AsmCause)
module_of_lines lines = module_of (numbered 1 lines)

abbrev pub module_of_source : List ℕ → Result Module (Refusal AsmCause)
module_of_source source = module_of (line_texts source)
