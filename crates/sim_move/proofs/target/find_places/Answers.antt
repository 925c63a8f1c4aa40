use Rattle.sim_move.proofs.Common.{ADDR, find_in_memory, find_places, goes_at, MOVER, refl, stays}
use Rattle.sim_move.specs.Pieces as piece
use Rattle.sim_move.proofs.target.find_places.Goals as goal

pub returns-then-pc-eq-MOVER : goal.returns-then-pc-eq-MOVER
unfolding find_places
returns-then-pc-eq-MOVER g c =
    goes_at c.pc.ensures.value MOVER piece.check_registers _ c.keep_length.ensures c.if-pc-eq-MOVER.true refl
    c.check_registers.ensures

pub returns-then-pc-eq-ADDR : goal.returns-then-pc-eq-ADDR
unfolding find_places
returns-then-pc-eq-ADDR g c =
    stays c.pc.ensures.value MOVER piece.check_registers c.keep_length.ensures c.if-pc-eq-MOVER.false
    (goes_at c.pc-else-pc-eq-MOVER.ensures.value ADDR find_in_memory _ c.keep_length.ensures c.if-pc-eq-ADDR.true refl
    c.find_in_memory.ensures)

pub returns-else-pc-eq-ADDR : goal.returns-else-pc-eq-ADDR
unfolding find_places
returns-else-pc-eq-ADDR g c =
    stays c.pc.ensures.value MOVER piece.check_registers c.keep_length.ensures c.if-pc-eq-MOVER.false
    (stays c.pc-else-pc-eq-MOVER.ensures.value ADDR find_in_memory c.keep_length.ensures c.if-pc-eq-ADDR.false
    c.keep_length.ensures)
