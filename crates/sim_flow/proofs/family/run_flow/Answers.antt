use Rattle.std.proofs.Common.{◌∙◌, ap, Some, sym}
use Rattle.sim_flow.proofs.Dispatch.{case_here, is_exit, is_jump, is_at_address}
use Rattle.sim_flow.proofs.Jumps
use Rattle.sim_flow.proofs.family.run_flow.Goals as goal

pub leave-requires : goal.leave-requires
leave-requires g c = is_at_address c.requires (is_exit c.requires (sym c.current_operation.ensures ∙ c.in-Some-Plain.is ∙ ap Some c.in-Some-Plain.field-0-is))

pub returns-in-Some-Plain : goal.returns-in-Some-Plain
returns-in-Some-Plain g c =
    let is = is_exit c.requires (sym c.current_operation.ensures ∙ c.in-Some-Plain.is ∙ ap Some c.in-Some-Plain.field-0-is) in
    Jumps.exits c.requires.dispatched is (is_at_address c.requires is) c.leave.ensures

pub run_jump-requires-clause-is_at : goal.run_jump-requires-clause-is_at
run_jump-requires-clause-is_at g c =
    is_at_address c.requires (is_jump c.requires (sym c.current_operation.ensures ∙ c.in-Some-Jump.is ∙ ap Some c.in-Some-Jump.field-0-is))

pub run_jump-requires-clause-is : goal.run_jump-requires-clause-is
run_jump-requires-clause-is g c = is_jump c.requires (sym c.current_operation.ensures ∙ c.in-Some-Jump.is ∙ ap Some c.in-Some-Jump.field-0-is)

pub run_branch-requires-clause-is_at : goal.run_branch-requires-clause-is_at
run_branch-requires-clause-is_at g c = is_at_address c.requires (sym c.current_operation.ensures ∙ c.in-Some-Branch.is ∙ ap Some c.in-Some-Branch.field-0-is)

pub run_case_row-requires : goal.run_case_row-requires
run_case_row-requires g c = case_here c.requires (sym c.current_operation.ensures ∙ c.in-Some-One.is ∙ ap Some c.in-Some-One.field-0-is)
