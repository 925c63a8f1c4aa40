use Rattle.std.proofs.Common.{◌∙◌, ap, Some, sym}
use Rattle.sim_compare.proofs.Dispatch.{row_of_one, test}
use Rattle.sim_compare.proofs.family.run_compare.Goals as goal

pub run_test-requires-clause-at : goal.run_test-requires-clause-at
run_test-requires-clause-at g c = test c.requires _ (sym c.current_operation.ensures ∙ c.in-Some-Plain.is ∙ ap Some c.in-Some-Plain.field-0-is)

pub run_compare_row-requires : goal.run_compare_row-requires
run_compare_row-requires g c = row_of_one c.requires _ (sym c.current_operation.ensures ∙ c.in-Some-One.is ∙ ap Some c.in-Some-One.field-0-is)
