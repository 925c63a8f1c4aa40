use Rattle.std.proofs.Common.{◌∙◌, ap, refl, Some, sym}
use Rattle.sim_stack.proofs.Dispatch.{here, is_call, row_here, at_call, at_return}
use Rattle.sim_stack.proofs.Meaning.{call_turns, return_turns}
use Rattle.sim_stack.proofs.family.run_stack.Goals as goal

pub run_return-requires : goal.run_return-requires
run_return-requires g c =
    at_return c.requires (sym c.current_operation.ensures ∙ c.in-Some-Plain.is ∙ ap Some c.in-Some-Plain.field-0-is)

pub returns-in-Some-Plain : goal.returns-in-Some-Plain
returns-in-Some-Plain g c =
    let is = sym c.current_operation.ensures ∙ c.in-Some-Plain.is ∙ ap Some c.in-Some-Plain.field-0-is in
    return_turns c.turn_here.ensures _ (at_return c.requires is) refl c.requires.dispatched _ (here c.requires is) is
    c.run_return.ensures

pub run_call-requires : goal.run_call-requires
run_call-requires g c =
    at_call c.requires (sym c.current_operation.ensures ∙ c.in-Some-Jump.is ∙ ap Some c.in-Some-Jump.field-0-is)

pub returns-in-Some-Jump : goal.returns-in-Some-Jump
returns-in-Some-Jump g c =
    let is = sym c.current_operation.ensures ∙ c.in-Some-Jump.is ∙ ap Some c.in-Some-Jump.field-0-is in
    call_turns c.turn_here-in-Some-Jump.ensures _ (at_call c.requires is) refl c.requires.dispatched (is_call c.requires is)
    c.run_call.ensures

pub run_stack_row-requires : goal.run_stack_row-requires
run_stack_row-requires g c =
    row_here c.requires (sym c.current_operation.ensures ∙ c.in-Some-One.is ∙ ap Some c.in-Some-One.field-0-is)
