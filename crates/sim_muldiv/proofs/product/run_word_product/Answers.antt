use Rattle.sim_muldiv.proofs.Common.{view, CanStore, exit_then, finish_row, first_visible, multiplied_words}
use Rattle.sim_muldiv.proofs.Common.{low_product, refl, second_visible, shown, store, word_product}
use Rattle.sim_muldiv.proofs.product.run_word_product.Goals as goal

pub store_routine-requires-clause-is_at : goal.store_routine-requires-clause-is_at
store_routine-requires-clause-is_at g c = (multiplied_words c.requires.word c.multiply.ensures).is_at

pub store_routine-requires-clause-visible : goal.store_routine-requires-clause-visible
store_routine-requires-clause-visible g c =
    shown CanStore (multiplied_words c.requires.word c.multiply.ensures)
    (first_visible (view c.args.machine.now) c.requires.visible)

pub low_product-requires : goal.low_product-requires
low_product-requires g c = (exit_then store
    (multiplied_words c.requires.word c.multiply.ensures) refl c.store_routine.ensures).is_at

pub finish_row_routine-requires-clause-visible : goal.finish_row_routine-requires-clause-visible
finish_row_routine-requires-clause-visible g c =
    let stored = exit_then store (multiplied_words c.requires.word c.multiply.ensures) refl c.store_routine.ensures in
    shown CanStore (exit_then low_product stored refl c.low_product.ensures)
    (second_visible (view c.args.machine.now) c.requires.word c.requires.visible)

pub returns : goal.returns
unfolding word_product
returns g c =
    let stored = exit_then store (multiplied_words c.requires.word c.multiply.ensures) refl c.store_routine.ensures in
    exit_then finish_row (exit_then low_product stored refl c.low_product.ensures) refl c.finish_row_routine.ensures
