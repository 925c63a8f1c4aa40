use Rattle.sim_muldiv.proofs.Common.{view, byte_product, CanStore, exit_then, finish_row, multiplied_bytes, refl, shown}
use Rattle.sim_muldiv.proofs.Common.{word_visible}
use Rattle.sim_muldiv.proofs.product.run_byte_product.Goals as goal

pub finish_row_routine-requires-clause-is_at : goal.finish_row_routine-requires-clause-is_at
finish_row_routine-requires-clause-is_at g c = (multiplied_bytes c.requires.byte c.multiply.ensures).is_at

pub finish_row_routine-requires-clause-visible : goal.finish_row_routine-requires-clause-visible
finish_row_routine-requires-clause-visible g c =
    shown CanStore (multiplied_bytes c.requires.byte c.multiply.ensures)
    (word_visible (view c.args.machine.now) c.requires.visible)

pub returns : goal.returns
unfolding byte_product
returns g c = exit_then finish_row
    (multiplied_bytes c.requires.byte c.multiply.ensures) refl c.finish_row_routine.ensures
