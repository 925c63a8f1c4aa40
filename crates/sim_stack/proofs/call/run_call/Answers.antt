use Rattle.sim_stack.proofs.Common.{◌≤◌, at_most, call_on, called, end_row, exit_then, goes_then, off, on, refl, room}
use Rattle.sim_stack.proofs.Common.{shown, stopped, View, find_next, store_next}
use Rattle.sim_stack.proofs.call.run_call.Goals as goal

pub returns-then-pc-eq-GSTOP : goal.returns-then-pc-eq-GSTOP
unfolding called
returns-then-pc-eq-GSTOP g c =
    stopped call_on (on c.pc.ensures.value c.if-pc-eq-GSTOP.true) c.read_call_target.ensures

pub find_next-requires : goal.find_next-requires
find_next-requires g c = (room _ _ _ _ _ (off c.pc.ensures.value c.if-pc-eq-GSTOP.false) c.read_call_target.ensures).1.is_at

pub store_next-requires-clause-visible : goal.store_next-requires-clause-visible
store_next-requires-clause-visible g c =
    let passed = room _ _ _ _ _ (off c.pc.ensures.value c.if-pc-eq-GSTOP.false) c.read_call_target.ensures in
    shown (λ (w : View). w.r.r7 ≤ 0xC0) (exit_then find_next passed.1 refl c.find_next.ensures)
    (at_most 0xC0 _ passed.0)

pub returns : goal.returns
unfolding called call_on
returns g c =
    let elsewhere = off c.pc.ensures.value c.if-pc-eq-GSTOP.false in
    let stored = exit_then store_next c.find_next.ensures refl c.store_next.ensures in
    goes_then call_on elsewhere c.read_call_target.ensures (room _ _ _ _ _ elsewhere c.read_call_target.ensures).1.is_at refl
    (exit_then end_row stored refl c.end_row_routine.ensures)
