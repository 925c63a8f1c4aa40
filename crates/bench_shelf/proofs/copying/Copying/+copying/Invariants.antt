use Rattle.std.proofs.Common.{◌≡◌, ◌+◌, ◌*◌, ◌≤◌}
use Rattle.std.specs.Prelude.{is_some}
use Rattle.source_defs.specs.Lines.{LinesLieInside, line_texts}
use Rattle.expression_defs.proofs.LayoutLaws.{texts_of}
use Rattle.shelf_defs.specs.Copied.{most_bytes, most_copies}
use Rattle.asm_core.specs.Building.{IsOpen}
use Rattle.bench_shelf.specs.Causes.{CountsGrew, ReadWithinLimit}
use Rattle.bench_shelf.proofs.LoopLaws.{Follows, Counts}
use Rattle.bench_shelf.proofs.copying.Copying.+copying.Given as goal

-- a COPY line leads to files that are one level deeper
abbrev pub decreases-copy_file : goal.decreases-copy_file
decreases-copy_file g l = 3 * l.levels

abbrev pub decreases-copy_asked : goal.decreases-copy_asked
decreases-copy_asked g l = 3 * l.levels + 1

abbrev pub decreases-copy_lines : goal.decreases-copy_lines
decreases-copy_lines g l = 3 * l.levels + 2

-- some lines were taken, of which none ends the source, and the lines that are left go on from there
abbrev pub invariant-copy_lines-loop-line : goal.invariant-copy_lines-loop-line
invariant-copy_lines-loop-line g l =
    let state = g.F.Shelf.shelf in
    record {
      next : (goal.iterator-copy_lines-loop-line g).can_next l.line-iterator;
      finite : (goal.iterator-copy_lines-loop-line g).is_finite l.line-iterator;
      going : IsOpen l.self.builder;
      later : CountsGrew (state l.fn.shelf) (state l.shelf);
      most : l.self.copies ≤ most_copies;
      same : is_some l.self.kept ≡ is_some l.fn.self.kept;
      counts : Counts l.text l.fn.self l.self l.line-iterator;
      inside : LinesLieInside l.text l.line-iterator;
      follows : Follows l.levels l.file l.fn.self (line_texts l.text) l.self (texts_of l.text l.line-iterator) (state l.fn.shelf) (state l.shelf);
      within : ReadWithinLimit most_bytes (state l.fn.shelf) (state l.shelf);
    }
