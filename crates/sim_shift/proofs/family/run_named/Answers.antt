use Rattle.std.proofs.Common.{ℕ, ◌∙◌, subst, sym}
use Rattle.sim_rows.proofs.Common.{IsAt, view}
use Rattle.sim_shift.proofs.Shifts.{idle_kept, near_kept, shifts, visible_kept}
use Rattle.sim_shift.proofs.ShiftRows
use Rattle.sim_shift.proofs.family.run_named.Goals as goal

pub finish_row-requires-clause-idle : goal.finish_row-requires-clause-idle
finish_row-requires-clause-idle g c = idle_kept (ShiftRows.keeps c.args.op c.request_count.ensures c.take_count.ensures.exits) c.requires.idle

pub finish_row-requires-clause-space : goal.finish_row-requires-clause-space
finish_row-requires-clause-space g c =
    near_kept (view c.args.machine.now) (view c.take_count.new.machine) (ShiftRows.keeps c.args.op c.request_count.ensures c.take_count.ensures.exits) c.requires.space

pub finish_row-requires-clause-visible : goal.finish_row-requires-clause-visible
finish_row-requires-clause-visible g c =
    visible_kept (view c.args.machine.now) (view c.take_count.new.machine) (ShiftRows.keeps c.args.op c.request_count.ensures c.take_count.ensures.exits)
    c.requires.visible

pub finish_row-requires-clause-is_at : goal.finish_row-requires-clause-is_at
finish_row-requires-clause-is_at g c =
    ShiftRows.at_none c.args.op c.request_count.ensures c.take_count.ensures.exits (sym c.take_count.ensures.some ∙ c.if-not-take_count.true)

pub returns-then-not-take_count : goal.returns-then-not-take_count
returns-then-not-take_count g c =
    λ s place source known a both. ShiftRows.runs_none c.args.op c.request_count.ensures c.take_count.ensures.exits
    s place source known a c.requires.is_at.machine
    c.finish_row.new.machine c.finish_row.new.steps (sym c.take_count.ensures.some ∙ c.if-not-take_count.true) c.finish_row.ensures

pub shift_value-requires-clause-is_at : goal.shift_value-requires-clause-is_at
shift_value-requires-clause-is_at g c =
    ShiftRows.at_some c.args.op c.request_count.ensures c.take_count.ensures.exits (sym c.take_count.ensures.some ∙ c.if-not-take_count.false)

pub shift_value-requires-clause-some : goal.shift_value-requires-clause-some
shift_value-requires-clause-some g c =
    ShiftRows.count_some c.args.op c.request_count.ensures c.take_count.ensures.exits (sym c.take_count.ensures.some ∙ c.if-not-take_count.false)

pub shift_value-requires-clause-few : goal.shift_value-requires-clause-few
shift_value-requires-clause-few g c = ShiftRows.count_few c.args.op c.request_count.ensures c.take_count.ensures.exits

pub finish_row-requires-2-clause-idle : goal.finish_row-requires-2-clause-idle
finish_row-requires-2-clause-idle g c =
    idle_kept (ShiftRows.shifted c.args.op c.request_count.ensures c.take_count.ensures.exits c.shift_value.ensures) c.requires.idle

pub finish_row-requires-2-clause-space : goal.finish_row-requires-2-clause-space
finish_row-requires-2-clause-space g c =
    near_kept (view c.args.machine.now) (view c.shift_value.new.machine)
    (ShiftRows.shifted c.args.op c.request_count.ensures c.take_count.ensures.exits c.shift_value.ensures) c.requires.space

pub finish_row-requires-2-clause-visible : goal.finish_row-requires-2-clause-visible
finish_row-requires-2-clause-visible g c =
    visible_kept (view c.args.machine.now) (view c.shift_value.new.machine)
    (ShiftRows.shifted c.args.op c.request_count.ensures c.take_count.ensures.exits c.shift_value.ensures) c.requires.visible

pub finish_row-requires-2-clause-is_at : goal.finish_row-requires-2-clause-is_at
finish_row-requires-2-clause-is_at g c =
    subst (λ (n : ℕ). IsAt c.shift_value.new.machine n) (shifts c.args.op (view c.take_count.new.machine)).to_is c.shift_value.ensures.is_at

pub returns : goal.returns
returns g c =
    λ s place source known a both. ShiftRows.runs_some c.args.op c.request_count.ensures c.take_count.ensures.exits
    s place source known a c.requires.is_at.machine
    c.shift_value.new.machine c.finish_row-2.new.machine c.shift_value.new.steps c.finish_row-2.new.steps
    (sym c.take_count.ensures.some ∙ c.if-not-take_count.false) c.shift_value.ensures c.finish_row-2.ensures
