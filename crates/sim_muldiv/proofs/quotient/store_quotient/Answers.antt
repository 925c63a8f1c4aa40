use Rattle.sim_muldiv.proofs.Common.{view, ap, CanStore, end_division, even, exit_then, is_turn_end, refl, second_visible}
use Rattle.sim_muldiv.proofs.Common.{shown, IsAt, store_quotient, subst}
use Rattle.sim_muldiv.proofs.Common.{take_remainder, ℕ}
use Rattle.sim_muldiv.proofs.quotient.store_quotient.Goals as goal

pub take_remainder-requires : goal.take_remainder-requires
take_remainder-requires g c = subst
    (λ (n : ℕ). IsAt c.store_routine.new.machine (even n)) c.requires.link c.store_routine.ensures.is_at

pub end_division-requires-clause-visible : goal.end_division-requires-clause-visible
end_division-requires-clause-visible g c =
    shown CanStore (exit_then take_remainder c.store_routine.ensures
    (ap (λ (n : ℕ). is_turn_end (even n)) c.requires.link) c.take_remainder.ensures)
    (second_visible (view c.args.machine.now) c.requires.word c.requires.visible)

pub returns : goal.returns
unfolding store_quotient
returns g c =
    exit_then end_division (exit_then take_remainder c.store_routine.ensures
    (ap (λ (n : ℕ). is_turn_end (even n)) c.requires.link) c.take_remainder.ensures)
    refl c.end_division.ensures
