use Rattle.std.proofs.Common.{◌∷◌, ◌∙◌}
use Rattle.std.specs.Prelude.{map}
use Rattle.std.proofs.lemmas.Result.{err_from_is_err_and}
use Rattle.source_defs.specs.Lines.{LinesLieInside}
use Rattle.object_defs.specs.declared.form.TextForm.TheVariants.{Plain}
use Rattle.object_defs.specs.Reading.{numbered_line}
use Rattle.object_tags.proofs.LineSteps.{line_read, line_refused, lines_end}
use Rattle.object_tags.specs.Reads.{kept_of}
use Rattle.object_tags.proofs.read.take_lines.Goals as goal

pub loop-line-preserved : goal.loop-line-preserved
loop-line-preserved c =
    let text = c.args.text.now in
    let i = c.loop-line.invariant in
    let inside : LinesLieInside text (c.in-Some.line ∷ c.next.new.self) = rw c.in-Some.ensures.steps at i.inside in
    let reads = rw c.in-Some.ensures.steps at i.reads in
    record {
      inside = inside.1;
      reads = line_read Plain _ _ (numbered_line text c.in-Some.line) (map (numbered_line text) c.next.new.self) reads _ (c.in_ok-take_line.ensures {u = tt});
    }

pub returns-in_err-take_line : goal.returns-in_err-take_line
returns-in_err-take_line c =
    let text = c.args.text.now in
    let p = err_from_is_err_and c.from_residual.result c.from_residual.ensures.1 in
    let reads = rw c.in-Some.ensures.steps at c.loop-line.invariant.reads in
    rw (p.1, p.2) (line_refused Plain _ _ (numbered_line text c.in-Some.line) (map (numbered_line text) c.next.new.self) reads c.in_err-take_line.field-0.0
    (c.in_err-take_line.ensures {u = tt}))

pub returns : goal.returns
returns c =
    let reads = rw c.in-None.ensures.steps.0 at c.loop-line.invariant.reads in
    reads ∙ lines_end Plain (kept_of c.loop-line.reader)
