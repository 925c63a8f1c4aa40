-- The module of a source with the files that it copies.
--
-- Profile: the copied lines are taken in their order. The first that cannot be copied or that the first checks refuse
-- is the answer; else the first that the second checks refuse is; else the module is that of these lines as one text.
use Rattle.std.specs.Prelude.{ℕ, ◌-◌, List, map, slice_get, None, Result, Ok, Err}
use Rattle.std.specs.Option.{unwrap_or}
use Rattle.source_defs.specs.Refusals.{Refusal, ◌>>=◌}
use Rattle.source_defs.specs.Lines.{numbered}
use Rattle.expression_defs.specs.Layout.{line_layout}
use Rattle.object_defs.specs.Modules.{Module}
use Rattle.asm_defs.specs.declared.causes.AsmCause.{AsmCause}
use Rattle.asm_defs.specs.Locations.{Line}
use Rattle.asm_defs.specs.FirstChecks.{check}
use Rattle.asm_defs.specs.Modules.{module_after}
use Rattle.shelf_defs.specs.Files.{Files, Contents, of_files}
use Rattle.shelf_defs.specs.Copied.{Place, PlacedLine, Asm, CopyRefusal, At, Ending, Open, Ended, Refused}
use Rattle.shelf_defs.specs.Copied.{Copied, copied_by}

abbrev pub texts : List PlacedLine → List (List ℕ)
texts lines = map (λ line. line.text) lines

abbrev pub places : List PlacedLine → List Place
places lines = map (λ line. line.place) lines

-- the place of a line by its number among all lines, from 1
abbrev pub place_of : List Place → ℕ → Place
place_of places number = unwrap_or (slice_get places (number - 1)) (record { file = None; line = number })

-- an answer of the assembler, whose refused line is reported by its place
abbrev pub in_place : {A : Type 0} → List PlacedLine → Result A (Refusal AsmCause) → Result A CopyRefusal
in_place lines (Ok value) = Ok value
in_place lines (Err refusal) = Err (At (place_of (places lines) refusal.line) (Asm refusal.cause))

-- lines, unless something after them is refused
abbrev pub unless_refused : {A : Type 0} → Ending → A → Result A CopyRefusal
unless_refused Open lines = Ok lines
unless_refused Ended lines = Ok lines
unless_refused (Refused refusal) lines = Err refusal

-- the lines by the first checks, in the order in which they are copied
abbrev pub layout_copied : Copied → Result (List Line) CopyRefusal
layout_copied found = do
  lines ← in_place found.lines (line_layout check (numbered 1 (texts found.lines)))
  unless_refused found.ending lines

abbrev pub module_of_copied : Copied → Result Module CopyRefusal
module_of_copied found = do
  lines ← layout_copied found
  in_place found.lines (module_after lines)

-- the module of a source with the files that it copies, or why there is none
abbrev pub module_by : Contents → List ℕ → Result Module CopyRefusal
module_by contents source = module_of_copied (copied_by contents source)

abbrev pub module_of_files : Files → List ℕ → Result Module CopyRefusal
module_of_files files source = module_by (of_files files) source
