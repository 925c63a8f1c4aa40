use Rattle.sim_muldiv.proofs.Common.{view, divide_words, exit_then, CanLoad, load, refl, second_visible, shown, View}
use Rattle.sim_muldiv.proofs.Common.{◌<◌}
use Rattle.sim_muldiv.proofs.quotient.load_and_divide.Goals as goal

pub load_routine-requires-clause-visible : goal.load_routine-requires-clause-visible
load_routine-requires-clause-visible g c =
    shown CanLoad c.load_low_word.ensures
    (second_visible (view c.args.machine.now) c.requires.word c.requires.visible)

pub divide_words-requires-clause-is_at : goal.divide_words-requires-clause-is_at
divide_words-requires-clause-is_at g c = (exit_then load c.load_low_word.ensures refl c.load_routine.ensures).is_at

pub divide_words-requires-clause-fits : goal.divide_words-requires-clause-fits
divide_words-requires-clause-fits g c =
    shown (λ (w : View). w.r.r9 < w.r.r12)
    (exit_then load c.load_low_word.ensures refl c.load_routine.ensures) c.requires.fits

pub returns : goal.returns
returns g c = exit_then divide_words
    (exit_then load c.load_low_word.ensures refl c.load_routine.ensures) refl c.divide_words.ensures
