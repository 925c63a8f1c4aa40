use Rattle.std.proofs.Common.{refl}
use Rattle.sim_view.proofs.Routines.{exit_then, shown}
use Rattle.sim_operands.specs.Routines.{CanStore, store}
use Rattle.sim_rows.specs.Routines.{end_row, finish_row}
use Rattle.sim_rows.proofs.tail.finish_row_routine.Goals as goal

pub store_routine-requires-clause-visible : goal.store_routine-requires-clause-visible
store_routine-requires-clause-visible g c = shown CanStore c.store_result.ensures c.requires.visible

pub end_row_routine-requires : goal.end_row_routine-requires
end_row_routine-requires g c = (exit_then store c.store_result.ensures refl c.store_routine.ensures).is_at

pub returns : goal.returns
unfolding finish_row
returns g c =
    exit_then end_row (exit_then store c.store_result.ensures refl c.store_routine.ensures) refl
    c.end_row_routine.ensures
