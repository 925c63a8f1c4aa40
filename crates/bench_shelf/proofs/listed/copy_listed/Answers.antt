use Rattle.bench_shelf.proofs.ListedLaws.{answered_all, answered_before, no_report_all, causes_all}
use Rattle.bench_shelf.proofs.listed.copy_listed.Goals as goal

pub returns-in-Ok-clause-answered : goal.returns-in-Ok-clause-answered
returns-in-Ok-clause-answered g c =
    let shelf = g.F.Shelf.shelf in
    answered_all c.args.text.now c.keeping-copying.result c.copy_lines.new.self (shelf c.args.shelf.now) (shelf c.copy_lines.new.shelf)
    c.keeping-copying.ensures.none c.keeping-copying.ensures.copies c.copy_lines.ensures.most c.listed.result c.in-Ok.ensures.copies c.listed.ensures.finishes
    c.in-Ok.ensures.grows.held

pub returns-in-Ok-clause-no_report : goal.returns-in-Ok-clause-no_report
returns-in-Ok-clause-no_report g c =
    let held = c.in-Ok.ensures.grows.held in
    no_report_all held.0 held.1.taken.lines c.listed.result (c.listed.ensures.finishes held.0 held.1)

pub returns-in-Ok-clause-causes : goal.returns-in-Ok-clause-causes
returns-in-Ok-clause-causes g c =
    let shelf = g.F.Shelf.shelf in
    let held = c.in-Ok.ensures.grows.held in
    causes_all (shelf c.args.shelf.now) (shelf c.copy_lines.new.shelf) held.0 held.1.taken.lines c.listed.result (c.listed.ensures.finishes held.0 held.1)
    c.in-Ok.ensures.within

pub returns-in-Err-clause-answered : goal.returns-in-Err-clause-answered
returns-in-Err-clause-answered g c =
    let shelf = g.F.Shelf.shelf in
    answered_before c.args.text.now c.keeping-copying.result c.copy_lines.new.self (shelf c.args.shelf.now) (shelf c.copy_lines.new.shelf)
    c.keeping-copying.ensures.none c.keeping-copying.ensures.copies c.copy_lines.ensures.most c.in-Err.error c.listed_before.result c.in-Err.ensures.copies
    c.listed_before.ensures.stops
