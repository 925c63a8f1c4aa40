use Rattle.std.proofs.lemmas.Bool.{eq-eqb, ne_eqb}
use Rattle.sim_muldiv.proofs.Common.{exits_by, off, on, product, refl}
use Rattle.sim_muldiv.proofs.product.run_product.Goals as goal

pub returns-then-register-eq1 : goal.returns-then-register-eq1
unfolding product
returns-then-register-eq1 g c =
    exits_by (rw (eq-eqb _ 1 (on c.register.ensures c.if-register-eq1.true)) refl) c.run_byte_product.ensures

pub returns-else-register-eq1 : goal.returns-else-register-eq1
unfolding product
returns-else-register-eq1 g c =
    exits_by (rw (ne_eqb _ 1 (off c.register.ensures c.if-register-eq1.false)) refl) c.run_word_product.ensures
