use Rattle.sim_move.proofs.Common.{ADDR, asks_on, exit_then, find_length, goes_at, load_count, load_placed, refl, stays, view}
use Rattle.sim_move.proofs.length.find_length.Goals as goal

pub returns-then-pc-eq-ADDR : goal.returns-then-pc-eq-ADDR
unfolding find_length
returns-then-pc-eq-ADDR g c =
    goes_at c.pc.ensures.value ADDR load_placed _ c.request_length.ensures c.if-pc-eq-ADDR.true refl c.load_placed.ensures

pub returns-else-pc-eq-ADDR : goal.returns-else-pc-eq-ADDR
unfolding find_length
returns-else-pc-eq-ADDR g c =
    stays c.pc.ensures.value ADDR load_placed c.request_length.ensures c.if-pc-eq-ADDR.false
    (exit_then load_count c.request_length.ensures (asks_on (view c.args.machine.now)) c.load_count.ensures)
