use Rattle.std.proofs.Common.{subst, sym, ap, ◌∙◌}
use Rattle.sim_rows.proofs.Common.{GplOperation, bound_of_shift_row, RunsRow, ShiftOp, IsAt, Two}
use Rattle.sim_shift.specs.Family.{count_entry, name_of}
use Rattle.sim_shift.proofs.Dispatch.{counts, named}
use Rattle.sim_shift.proofs.family.run_row.Goals as goal

pub run_named-requires-clause-is_at : goal.run_named-requires-clause-is_at
run_named-requires-clause-is_at g c =
    subst (λ (op : ShiftOp). IsAt c.args.machine.now (count_entry op)) (sym c.shift_of.ensures) (counts c.requires)

pub returns : goal.returns
returns g c =
    subst (λ (o : GplOperation). RunsRow o bound_of_shift_row c.args.machine.now c.run_named.new.machine c.args.steps.now c.run_named.new.steps)
    (sym (named c.args.operation c.requires.family ∙ ap (λ (op : ShiftOp). Two (name_of op)) (sym c.shift_of.ensures))) c.run_named.ensures
