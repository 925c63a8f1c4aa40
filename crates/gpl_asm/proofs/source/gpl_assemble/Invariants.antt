use Rattle.std.proofs.Common.{◌≡◌, ◌+◌, false, List, length}
use Rattle.source_defs.specs.Lines.{LinesLieInside, line_texts}
use Rattle.expression_defs.specs.Layout.{line_layout, layout_after}
use Rattle.expression_defs.proofs.LayoutLaws.{IsNumbered, texts_of}
use Rattle.gpl_source_defs.specs.Locations.{Line}
use Rattle.gpl_source_defs.specs.FirstChecks.{check}
use Rattle.gpl_asm.specs.Building.{IsAfter}
use Rattle.gpl_asm.proofs.source.gpl_assemble.Given as goal

-- some lines were taken, none of which ends the source, and the lines that are left go on from there
abbrev pub invariant-loop-line : goal.invariant-loop-line
invariant-loop-line l =
    (before : List Line) × IsAfter before l.builder × (l.builder.ended ≡ false) × LinesLieInside l.text l.line-iterator
    × IsNumbered (length before + 1) l.line-iterator
    × (layout_after check before (texts_of l.text l.line-iterator) ≡ line_layout check (line_texts l.text))
