use Rattle.workbench.proofs.over_files.report_over.Goals as goal

pub returns-in-AsmFiles-clause-answers : goal.returns-in-AsmFiles-clause-answers
returns-in-AsmFiles-clause-answers g c = rw c.in-AsmFiles.is c.asm.ensures.answers

pub returns-in-Watch-clause-answers : goal.returns-in-Watch-clause-answers
returns-in-Watch-clause-answers g c = rw c.in-Watch.is (c.watch.ensures (g.F.Shelf.shelf c.args.shelf.now))
