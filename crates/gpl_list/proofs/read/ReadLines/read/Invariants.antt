use Rattle.std.proofs.Common.{◌≡◌, ◌+◌, false, List, length}
use Rattle.source_defs.specs.Lines.{LinesLieInside, line_texts}
use Rattle.expression_defs.proofs.LayoutLaws.{IsNumbered}
use Rattle.gpl_source_defs.specs.Locations.{Line}
use Rattle.gpl_asm.specs.Building.{IsAfter}
use Rattle.gpl_list.specs.Reading.{Keeps}
use Rattle.gpl_list.proofs.PassLaws.{Passed}
use Rattle.gpl_list.proofs.read.ReadLines.read.Given as goal

-- some lines were read, none of which ends the source, and these are left
abbrev pub invariant-loop-line : goal.invariant-loop-line
invariant-loop-line l =
    (lines : List Line) × IsAfter lines l.self.builder × (l.self.builder.ended ≡ false) × LinesLieInside l.text l.line-iterator
    × IsNumbered (length lines + 1) l.line-iterator × Keeps (line_texts l.text) lines l.self × Passed l.text lines l.line-iterator
