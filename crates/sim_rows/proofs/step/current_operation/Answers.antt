use Rattle.std.proofs.Common.{◌∙◌, ◌≡◌, ap, arith}
use Rattle.sim_view.proofs.Common.{is_view}
use Rattle.sim_rows.specs.Prelude.{code_byte, operation_at, state_at_dispatch, view}
use Rattle.sim_rows.proofs.step.current_operation.Goals as goal

pub overflow_cast-register : goal.overflow_cast-register
overflow_cast-register c =
    let s = state_at_dispatch (view c.args.machine.now) in
    let fits = (is_view c.args.machine.now c.holds_bounds.ensures).grom.image.fits s.pc in
    let kept : (view c.args.machine.now).r.r0 ≡ code_byte s = c.requires.dispatched.code in
    let r = c.register.ensures in omega arith

pub returns : goal.returns
returns c = c.operation_at.ensures ∙ ap operation_at (c.register.ensures ∙ c.requires.dispatched.code)
