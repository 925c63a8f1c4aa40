use Rattle.sim_move.proofs.Common.{◌∙◌, arith, CanLoad, goes_at, GSTOP, is_view, load_count, load_placed, MOVEN, not_at, on}
use Rattle.sim_move.proofs.Common.{refl, shown, stays, sym, word_found}
use Rattle.sim_move.proofs.length.load_placed.Goals as goal

pub load_count-requires-clause-visible : goal.load_count-requires-clause-visible
load_count-requires-clause-visible g c =
    let here = on c.pc.ensures.value c.if-pc-eq-MOVEN.true in
    let image = (is_view c.args.machine.now c.requires.is_at.machine).grom.image in
    shown CanLoad c.address_routine.ensures (word_found _ c.requires.ready image c.requires.word
    (not_at GSTOP c.address_routine.ensures (λ e. let n = sym here ∙ e in absurd (omega arith))))

pub returns-then-pc-eq-MOVEN : goal.returns-then-pc-eq-MOVEN
unfolding load_placed
returns-then-pc-eq-MOVEN g c =
    goes_at c.pc.ensures.value MOVEN load_count _ c.address_routine.ensures c.if-pc-eq-MOVEN.true refl c.load_count.ensures

pub returns-else-pc-eq-MOVEN : goal.returns-else-pc-eq-MOVEN
unfolding load_placed
returns-else-pc-eq-MOVEN g c =
    stays c.pc.ensures.value MOVEN load_count c.address_routine.ensures c.if-pc-eq-MOVEN.false c.address_routine.ensures
