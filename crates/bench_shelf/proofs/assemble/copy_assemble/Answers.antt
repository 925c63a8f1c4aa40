use Rattle.std.specs.Prelude.{Err, refl}
use Rattle.bench_shelf.proofs.ModuleLaws.{answered_all, answered_refused}
use Rattle.bench_shelf.proofs.FilesLaws.{shown_module}
use Rattle.bench_shelf.proofs.assemble.copy_assemble.Goals as goal

pub returns-clause-answered : goal.returns-clause-answered
returns-clause-answered g c =
    let shelf = g.F.Shelf.shelf in
    answered_all c.args.text.now c.new-copying.result c.copy_lines.new.self (shelf c.args.shelf.now) (shelf c.copy_lines.new.shelf) c.new-copying.ensures.none
    c.new-copying.ensures.copies c.copy_lines.ensures.most c.finish.result (c.finish.ensures.causes c.in_default.ensures.grows.held)
    c.in_default.ensures.copies c.finish.ensures.module

pub returns-in-Err-clause-answered : goal.returns-in-Err-clause-answered
returns-in-Err-clause-answered g c =
    let shelf = g.F.Shelf.shelf in
    answered_refused c.args.text.now c.new-copying.result c.copy_lines.new.self (shelf c.args.shelf.now) (shelf c.copy_lines.new.shelf) c.new-copying.ensures.none
    c.new-copying.ensures.copies c.copy_lines.ensures.most c.in-Err.error c.in-Err.ensures.copies

pub returns-clause-shown : goal.returns-clause-shown
returns-clause-shown g c = shown_module _ _ c.args.text.now _ c.finish.result refl (returns-clause-answered g c)

pub returns-in-Err-clause-shown : goal.returns-in-Err-clause-shown
returns-in-Err-clause-shown g c = shown_module _ _ c.args.text.now _ (Err c.in-Err.error) refl (returns-in-Err-clause-answered g c)
