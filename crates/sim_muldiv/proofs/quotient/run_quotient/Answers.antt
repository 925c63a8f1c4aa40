use Rattle.sim_muldiv.proofs.Common.{AreVisible, byte_quotient, exit_then, exits_by, false, off, on, quotient, refl}
use Rattle.sim_muldiv.proofs.Common.{set_overflow, shown, some_divisor, true}
use Rattle.sim_muldiv.proofs.Common.{View, word_quotient, ◌<◌, ◌==◌, ◌≡◌, ◌≤◌}
use Rattle.std.proofs.lemmas.Bool.{ltb-true}
use Rattle.sim_muldiv.proofs.Ways
use Rattle.sim_muldiv.proofs.quotient.run_quotient.Goals as goal

pub set_overflow-requires : goal.set_overflow-requires
set_overflow-requires g c = (Ways.over _ _ _
    (on c.pc.ensures.value c.if-pc-eq-OVER.true) c.compare_divisor.ensures).1.is_at

pub run_byte_quotient-requires : goal.run_byte_quotient-requires
run_byte_quotient-requires g c =
    let way = Ways.bytes _ _ _ (on c.pc-else-pc-eq-OVER.ensures.value c.if-pc-eq-DIVBY.true) c.compare_divisor.ensures in
    record {
      is_at = way.2.is_at;
      visible = shown AreVisible way.2 c.requires.ready.visible;
      byte = shown (λ (w : View). (w.r.r3 == 1) ≡ true) way.2 way.1;
      fits = shown (λ (w : View). 256 ≤ w.r.r6) way.2 (some_divisor _ c.requires.ready (ltb-true _ _ way.0) way.1);
    }

pub run_word_quotient-requires : goal.run_word_quotient-requires
run_word_quotient-requires g c =
    let way = Ways.words _ _ _ (off c.pc.ensures.value c.if-pc-eq-OVER.false)
    (off c.pc-else-pc-eq-OVER.ensures.value c.if-pc-eq-DIVBY.false)
    c.compare_divisor.ensures in
    record {
      is_at = way.2.is_at;
      visible = shown AreVisible way.2 c.requires.ready.visible;
      word = shown (λ (w : View). (w.r.r3 == 1) ≡ false) way.2 way.1;
      fits = shown (λ (w : View). w.r.r9 < w.r.r6) way.2 (ltb-true _ _ way.0);
    }

pub returns-then-pc-eq-OVER : goal.returns-then-pc-eq-OVER
unfolding quotient
returns-then-pc-eq-OVER g c =
    let way = Ways.over _ _ _ (on c.pc.ensures.value c.if-pc-eq-OVER.true) c.compare_divisor.ensures in
    exits_by (rw way.0 refl) (exit_then set_overflow way.1 refl c.set_overflow.ensures)

pub returns-then-pc-eq-DIVBY : goal.returns-then-pc-eq-DIVBY
unfolding quotient
returns-then-pc-eq-DIVBY g c =
    let way = Ways.bytes _ _ _ (on c.pc-else-pc-eq-OVER.ensures.value c.if-pc-eq-DIVBY.true) c.compare_divisor.ensures in
    exits_by (rw (way.0, way.1) refl) (exit_then byte_quotient way.2 refl c.run_byte_quotient.ensures)

pub returns-else-pc-eq-DIVBY : goal.returns-else-pc-eq-DIVBY
unfolding quotient
returns-else-pc-eq-DIVBY g c =
    let way = Ways.words _ _ _ (off c.pc.ensures.value c.if-pc-eq-OVER.false)
    (off c.pc-else-pc-eq-OVER.ensures.value c.if-pc-eq-DIVBY.false)
    c.compare_divisor.ensures in
    exits_by (rw (way.0, way.1) refl) (exit_then word_quotient way.2 refl c.run_word_quotient.ensures)
