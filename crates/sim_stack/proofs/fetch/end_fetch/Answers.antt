use Rattle.sim_stack.proofs.Common.{CanStore, end_fetch, exit_then, refl, resume_row, shown, store, store_fetched}
use Rattle.sim_stack.proofs.fetch.end_fetch.Goals as goal

pub store_routine-requires-clause-visible : goal.store_routine-requires-clause-visible
store_routine-requires-clause-visible g c = shown CanStore c.store_stacked.ensures c.requires.visible.0

pub store_fetched-requires : goal.store_fetched-requires
store_fetched-requires g c = (exit_then store c.store_stacked.ensures refl c.store_routine.ensures).is_at

pub store_routine-requires-2-clause-visible : goal.store_routine-requires-2-clause-visible
store_routine-requires-2-clause-visible g c =
    let word = exit_then store c.store_stacked.ensures refl c.store_routine.ensures in
    shown CanStore (exit_then store_fetched word refl c.store_fetched.ensures) c.requires.visible.1

pub resume_row_routine-requires : goal.resume_row_routine-requires
resume_row_routine-requires g c = (exit_then store c.store_fetched.ensures refl c.store_routine-2.ensures).is_at

pub returns : goal.returns
unfolding end_fetch
returns g c =
    let word = exit_then store c.store_stacked.ensures refl c.store_routine.ensures in
    let both = exit_then store (exit_then store_fetched word refl c.store_fetched.ensures) refl
    c.store_routine-2.ensures in
    exit_then resume_row both refl c.resume_row_routine.ensures
