use Rattle.sim_stack.proofs.Common.{ap, even, exit_then, is_turn_end, refl, ℕ, keep_next, seek}
use Rattle.sim_stack.proofs.fetch.set_aside.Goals as goal

pub returns : goal.returns
returns g c =
    let kept = exit_then keep_next c.where_next.ensures (ap (λ (n : ℕ). is_turn_end (even n)) c.requires.link)
    c.keep_next.ensures in
    exit_then seek kept refl c.seek_address.ensures
