use Rattle.std.proofs.Common.{slice_index_or, sym, ◌∙◌, arith}
use Rattle.step_changes.proofs.Neighbours.{goes_on, ends_here, ends_after}
use Rattle.step_changes.proofs.scan.stretch.Goals.{then-loop-end-test+else-is_made, else-loop-end-test}
use Rattle.step_changes.proofs.scan.stretch.Goals as goal

pub loop-end-preserved : goal.loop-end-preserved
loop-end-preserved c =
    let byte = slice_index_or c.args.now.now c.args.from 0 in
    let more = goes_on c.args.before.now c.args.now.now c.requires.size byte c.loop-end.end c.loop-end-test.true (sym c.is_made.ensures ∙ c.if-is_made.true) in
    (omega (arith, more, c.loop-end.invariant.0), omega arith, omega (arith, c.loop-end.invariant.2))

pub returns-clause-value : goal.returns-clause-value
returns-clause-value c =
    let byte = slice_index_or c.args.now.now c.args.from 0 in
    elim c.loop-end-test.branch [
      | then-loop-end-test+else-is_made w ↦
          let no = ends_here c.args.before.now c.args.now.now c.requires.size byte c.loop-end.end w.loop-end-test.true (sym w.is_made.ensures ∙ w.if-is_made.false) in
          omega (arith, no, c.loop-end.invariant.0, c.loop-end.invariant.2)
      | else-loop-end-test w ↦
          let no = ends_after c.args.before.now c.args.now.now c.requires.size byte c.loop-end.end w.loop-end-test.false in
          omega (arith, no, c.loop-end.invariant.0, c.loop-end.invariant.2)
    ]
