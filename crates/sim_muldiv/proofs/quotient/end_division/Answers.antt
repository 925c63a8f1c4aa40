use Rattle.sim_muldiv.proofs.Common.{CanStore, clear_overflow, end_division, end_row, exit_then, refl, shown, store}
use Rattle.sim_muldiv.proofs.quotient.end_division.Goals as goal

pub store_routine-requires-clause-visible : goal.store_routine-requires-clause-visible
store_routine-requires-clause-visible g c = shown CanStore c.store_last.ensures c.requires.visible

pub clear_overflow-requires : goal.clear_overflow-requires
clear_overflow-requires g c = (exit_then store c.store_last.ensures refl c.store_routine.ensures).is_at

pub returns : goal.returns
unfolding end_division
returns g c =
    let stored = exit_then store c.store_last.ensures refl c.store_routine.ensures in
    exit_then end_row (exit_then clear_overflow stored refl c.clear_overflow.ensures) refl c.end_row_routine.ensures
