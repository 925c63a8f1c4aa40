use Rattle.std.proofs.Common.{List, ℕ, sym, subst}
use Rattle.bench_io.specs.ReadAll.{ReadWhole}
use Rattle.report_defs.specs.Report.{largest_input}
use Rattle.reports.specs.Answers.{answer}
use Rattle.workbench.proofs.Ends.{watch_answered}
use Rattle.workbench.proofs.watch.watch.Goals as goal

pub returns : goal.returns
returns g c shelf =
    let before = g.S.Source.state c.args.input.now in
    let after = g.S.Source.state c.read_all.new.source in
    let whole = subst (λ (b : List ℕ). ReadWhole largest_input before after b) (sym c.as_slice.ensures.value) c.in_ok-source.ensures.ok in
    watch_answered before after c.as_slice.result.now whole shelf c.args.limit c.args.items.now (answer c.watch_source.result) c.watch_source.ensures
