use Rattle.sim_move.proofs.Common.{ADDR, find_operand, find_source, goes_at, refl, stays}
use Rattle.sim_move.proofs.target.find_source.Goals as goal

pub returns-then-pc-eq-ADDR : goal.returns-then-pc-eq-ADDR
unfolding find_source
returns-then-pc-eq-ADDR g c =
    goes_at c.pc.ensures.value ADDR find_operand _ c.keep_target.ensures c.if-pc-eq-ADDR.true refl c.address_routine.ensures

pub returns-else-pc-eq-ADDR : goal.returns-else-pc-eq-ADDR
unfolding find_source
returns-else-pc-eq-ADDR g c =
    stays c.pc.ensures.value ADDR find_operand c.keep_target.ensures c.if-pc-eq-ADDR.false c.keep_target.ensures
