use Rattle.sim_stack.proofs.Common.{clear_and_go, exit_then, goes_at, goes_then, keeps, off, on, refl, returned, room}
use Rattle.sim_stack.proofs.Common.{stays, stopped, TAKE}
use Rattle.sim_jumps.specs.Pieces as jump
use Rattle.sim_stack.proofs.returns.run_return.Goals as goal

pub returns-then-pc-eq-TAKE : goal.returns-then-pc-eq-TAKE
unfolding returned
returns-then-pc-eq-TAKE g c =
    goes_at c.pc.ensures.value TAKE clear_and_go _ c.take_return.ensures c.if-pc-eq-TAKE.true refl
    (exit_then jump.go_to c.take_branch.ensures refl c.go_to.ensures)

pub go_to-requires-then-pc-ne-GSTOP : goal.go_to-requires-then-pc-ne-GSTOP
go_to-requires-then-pc-ne-GSTOP g c =
    let elsewhere = off c.pc-else-pc-eq-TAKE.ensures.value c.if-pc-ne-GSTOP.true in
    (keeps (off c.pc.ensures.value c.if-pc-eq-TAKE.false) (room _ _ _ _ _ elsewhere c.take_return.ensures).1).1.is_at

pub returns-then-pc-ne-GSTOP : goal.returns-then-pc-ne-GSTOP
unfolding returned
returns-then-pc-ne-GSTOP g c =
    let other = off c.pc.ensures.value c.if-pc-eq-TAKE.false in
    let elsewhere = off c.pc-else-pc-eq-TAKE.ensures.value c.if-pc-ne-GSTOP.true in
    let taken = keeps other (room _ _ _ _ _ elsewhere c.take_return.ensures).1 in
    stays c.pc.ensures.value TAKE clear_and_go c.take_return.ensures c.if-pc-eq-TAKE.false
    (goes_then jump.go_to elsewhere c.take_return.ensures taken.1.is_at refl c.go_to-then-pc-ne-GSTOP.ensures)

pub returns-else-pc-ne-GSTOP : goal.returns-else-pc-ne-GSTOP
unfolding returned
returns-else-pc-ne-GSTOP g c =
    let here = on c.pc-else-pc-eq-TAKE.ensures.value c.if-pc-ne-GSTOP.false in
    stays c.pc.ensures.value TAKE clear_and_go c.take_return.ensures c.if-pc-eq-TAKE.false
    (stopped jump.go_to here c.take_return.ensures)
