use Rattle.sim_muldiv.proofs.Common.{view, byte_quotient, CanStore, end_division, exit_then, refl, shown, word_visible}
use Rattle.sim_muldiv.proofs.quotient.run_byte_quotient.Goals as goal

pub end_division-requires-clause-visible : goal.end_division-requires-clause-visible
end_division-requires-clause-visible g c =
    shown CanStore c.divide_bytes.ensures (word_visible (view c.args.machine.now) c.requires.visible)

pub returns : goal.returns
unfolding byte_quotient
returns g c = exit_then end_division c.divide_bytes.ensures refl c.end_division.ensures
