use Rattle.sim_muldiv.proofs.Common.{AreVisible, DIVQ, exit_then, false, refl, shown, store_quotient, View}
use Rattle.sim_muldiv.proofs.Common.{word_quotient, ◌==◌, ◌≡◌}
use Rattle.sim_muldiv.proofs.quotient.run_word_quotient.Goals as goal

pub store_quotient-requires-clause-link : goal.store_quotient-requires-clause-link
store_quotient-requires-clause-link g c = shown (λ (w : View). w.r.r11 ≡ DIVQ) c.load_and_divide.ensures refl

pub store_quotient-requires-clause-visible : goal.store_quotient-requires-clause-visible
store_quotient-requires-clause-visible g c = shown AreVisible c.load_and_divide.ensures c.requires.visible

pub store_quotient-requires-clause-word : goal.store_quotient-requires-clause-word
store_quotient-requires-clause-word g c =
    shown (λ (w : View). (w.r.r3 == 1) ≡ false) c.load_and_divide.ensures c.requires.word

pub returns : goal.returns
unfolding word_quotient
returns g c = exit_then store_quotient c.load_and_divide.ensures refl c.store_quotient.ensures
