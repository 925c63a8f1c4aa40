use Rattle.sim_stack.proofs.Common.{exit_then, refl, request_byte, fetch, keep_byte, seek}
use Rattle.sim_stack.proofs.fetch.fetch_stacked.Goals as goal

pub returns : goal.returns
returns g c =
    let seeks = exit_then seek c.seek_stacked.ensures refl c.seek_address.ensures in
    let asked = exit_then request_byte seeks refl c.request_byte.ensures in
    let read = exit_then fetch asked refl c.fetch_byte.ensures in
    exit_then keep_byte read refl c.keep_byte.ensures
