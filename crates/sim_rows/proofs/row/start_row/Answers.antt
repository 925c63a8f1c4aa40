use Rattle.std.proofs.Common.{◌∙◌, ◌≡◌, ap, arith, Bool, subst, true}
use Rattle.sim_rows.specs.Prelude.{code_byte, GplState, LoadsOperands, operands_of, operation_at, state_at_dispatch, view}
use Rattle.sim_rows.proofs.Codes.{row_code}
use Rattle.sim_rows.proofs.FirstOperand.{fits}
use Rattle.sim_rows.proofs.RowStart
use Rattle.sim_rows.proofs.row.start_row.Given.{Over}
use Rattle.sim_rows.proofs.row.start_row.Goals.{After-load_operands}
use Rattle.sim_rows.proofs.row.start_row.Goals as goal

-- What is known after the operands: they are there.
module _ (g : Over) (c : After-load_operands g) (went : c.load_operands.result ≡ true) where
  abbrev s : GplState
  s = state_at_dispatch (view c.args.machine.now)

  ready : RowStart.Ready s c.args.machine.now c.load_operands.new.machine c.args.steps.now c.load_operands.new.steps
  ready =
      RowStart.ready s c.args.machine.now c.load_operands.new.machine c.args.steps.now c.load_operands.new.steps
      (subst (λ (b : Bool). LoadsOperands s c.args.machine.now c.load_operands.new.machine c.args.steps.now c.load_operands.new.steps b (operands_of s))
      went c.load_operands.ensures)

pub overflow_cast-code : goal.overflow_cast-code
overflow_cast-code g c =
    let small = fits c.requires in
    let kept : (view c.args.machine.now).r.r0 ≡ code_byte (state_at_dispatch (view c.args.machine.now)) = c.requires.dispatched.code in
    let a = c.register-code.ensures in omega arith

pub go_to_row-requires-clause-is_at : goal.go_to_row-requires-clause-is_at
go_to_row-requires-clause-is_at g c =
    let at = (goal.at.go_to_row-requires-clause-is_at g c).After-load_operands in
    (ready g at c.if-not-load_operands.false).comes.is_at

pub go_to_row-requires-clause-low : goal.go_to_row-requires-clause-low
go_to_row-requires-clause-low g c =
    let at = (goal.at.go_to_row-requires-clause-low g c).After-load_operands in
    let code = (ready g at c.if-not-load_operands.false).comes.holds.holds.code in
    let low = (row_code (code_byte (s g at c.if-not-load_operands.false)) (fits c.requires) c.requires.family).0 in omega arith

pub go_to_row-requires-clause-high : goal.go_to_row-requires-clause-high
go_to_row-requires-clause-high g c =
    let at = (goal.at.go_to_row-requires-clause-high g c).After-load_operands in
    let code = (ready g at c.if-not-load_operands.false).comes.holds.holds.code in
    let high = (row_code (code_byte (s g at c.if-not-load_operands.false)) (fits c.requires) c.requires.family).1 in omega arith

pub returns : goal.returns
returns g c =
    let at = (goal.at.returns g c).After-load_operands in
    let small = fits c.requires in
    let kept : (view c.args.machine.now).r.r0 ≡ code_byte (state_at_dispatch (view c.args.machine.now)) = c.requires.dispatched.code in
    let code : c.register-code.result ≡ code_byte (state_at_dispatch (view c.args.machine.now)) = let a = c.register-code.ensures in omega arith in
    record {
      starts = RowStart.starts (state_at_dispatch (view c.args.machine.now)) _ _ _ _ (ready g at c.if-not-load_operands.false) _ _ c.operation_at.result
          small c.requires.family c.go_to_row.ensures (c.operation_at.ensures ∙ ap operation_at code);
    }
