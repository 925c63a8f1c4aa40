use Rattle.sim_move.proofs.Common.{find_in_memory, find_source, goes_at, MOVED, refl, stays}
use Rattle.sim_move.proofs.target.find_in_memory.Goals as goal

pub returns-then-pc-eq-MOVED : goal.returns-then-pc-eq-MOVED
unfolding find_in_memory
returns-then-pc-eq-MOVED g c =
    goes_at c.pc.ensures.value MOVED find_source _ c.address_routine.ensures c.if-pc-eq-MOVED.true refl c.find_source.ensures

pub returns-else-pc-eq-MOVED : goal.returns-else-pc-eq-MOVED
unfolding find_in_memory
returns-else-pc-eq-MOVED g c =
    stays c.pc.ensures.value MOVED find_source c.address_routine.ensures c.if-pc-eq-MOVED.false c.address_routine.ensures
