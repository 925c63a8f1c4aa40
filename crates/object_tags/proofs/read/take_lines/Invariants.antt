use Rattle.std.proofs.Common.{◌≡◌}
use Rattle.std.specs.Prelude.{map}
use Rattle.source_defs.specs.Lines.{lines, LinesLieInside}
use Rattle.object_defs.specs.declared.form.TextForm.TheVariants.{Plain}
use Rattle.object_defs.specs.Reading.{numbered_line}
use Rattle.object_laws.specs.Running.{kept_lines}
use Rattle.object_tags.specs.Reads.{kept_of}
use Rattle.object_tags.proofs.read.take_lines.Given as goal

-- the lines that are left go on from here
abbrev pub invariant-loop-line : goal.invariant-loop-line
invariant-loop-line l = record {
  inside : LinesLieInside l.text l.line-iterator;
  reads : kept_lines Plain (kept_of l.fn.reader) (map (numbered_line l.text) (lines l.text))
      ≡ kept_lines Plain (kept_of l.reader) (map (numbered_line l.text) l.line-iterator);
}
