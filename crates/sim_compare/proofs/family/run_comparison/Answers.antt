use Rattle.sim_rows.proofs.Common.{is_view}
use Rattle.sim_compare.proofs.Comparisons
use Rattle.sim_compare.proofs.family.run_comparison.Goals as goal

pub end_comparison-requires : goal.end_comparison-requires
end_comparison-requires g c = Comparisons.comparison_decided c.args.operation c.requires.family c.compare_operands.ensures

pub returns : goal.returns
returns g c =
    Comparisons.runs c.args.operation c.requires.family (is_view c.args.machine.now c.requires.is_at.machine) c.compare_operands.ensures c.end_comparison.ensures
