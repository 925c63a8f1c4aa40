use Rattle.sim_stack.proofs.Common.{arith, at_most, CanStore, finish_row, goes_then, off, on, pushed, refl, room, shown}
use Rattle.sim_stack.proofs.Common.{stopped}
use Rattle.sim_stack.proofs.push.run_push.Goals as goal

pub returns-then-pc-eq-GSTOP : goal.returns-then-pc-eq-GSTOP
unfolding pushed
returns-then-pc-eq-GSTOP g c =
    stopped finish_row (on c.pc.ensures.value c.if-pc-eq-GSTOP.true) c.push_pointer.ensures

pub finish_row_routine-requires-clause-is_at : goal.finish_row_routine-requires-clause-is_at
finish_row_routine-requires-clause-is_at g c =
    (room _ _ _ _ _ (off c.pc.ensures.value c.if-pc-eq-GSTOP.false) c.push_pointer.ensures).1.is_at

pub finish_row_routine-requires-clause-visible : goal.finish_row_routine-requires-clause-visible
finish_row_routine-requires-clause-visible g c =
    let passed = room _ _ _ _ _ (off c.pc.ensures.value c.if-pc-eq-GSTOP.false) c.push_pointer.ensures in
    let near = at_most 0xC1 _ passed.0 in
    let byte = c.requires.byte in
    shown CanStore passed.1 (λ z. rw byte (omega arith))

pub returns : goal.returns
unfolding pushed
returns g c =
    let elsewhere = off c.pc.ensures.value c.if-pc-eq-GSTOP.false in
    goes_then finish_row elsewhere c.push_pointer.ensures (room _ _ _ _ _ elsewhere c.push_pointer.ensures).1.is_at refl
    c.finish_row_routine.ensures
