use Rattle.reports.specs.Answers.{answer}
use Rattle.workbench.specs.Asked.{model_of_over}
use Rattle.workbench.proofs.Ends.{ends_parsed, ends_over, ends_plain}
use Rattle.workbench.proofs.ShelfUse.{takes_of_shelf}
use Rattle.workbench.proofs.running.bench_with.Goals as goal

pub returns-in-Some-OverFiles-clause-ends : goal.returns-in-Some-OverFiles-clause-ends
returns-in-Some-OverFiles-clause-ends g c =
    let parsed = rw c.in-Some-OverFiles.field-0-is at c.in-Some-OverFiles.ensures.command in
    ends_parsed _ _ _ _ _ _ parsed (ends_over (model_of_over c.in-Some-OverFiles.command) _ (answer c.report_over.result) _ c.report_over.ensures.answers
    c.finish.ensures)

pub returns-in-Some-OverFiles-clause-shelf : goal.returns-in-Some-OverFiles-clause-shelf
returns-in-Some-OverFiles-clause-shelf g c = takes_of_shelf _ c.finish.result (returns-in-Some-OverFiles-clause-ends g c)

pub returns-in-Some-Plain-clause-ends : goal.returns-in-Some-Plain-clause-ends
returns-in-Some-Plain-clause-ends g c =
    let parsed = rw c.in-Some-Plain.field-0-is at c.in-Some-Plain.ensures.command in
    ends_parsed _ _ _ _ _ _ parsed (ends_plain c.in-Some-Plain.command (g.F.Shelf.shelf c.args.shelf.now) _ _ _ _ c.run_command.ensures)
