-- What SEEK leaves of the GROMs.
use Rattle.std.proofs.Common.{ℕ, sym, ap, subst}
use Rattle.std.specs.Prelude.{slice_index}
use Rattle.base_defs.proofs.AddressLaws.{previous-next}
use Rattle.console_defs.specs.Machine.{MachineState}
use Rattle.interp_defs.specs.Match.{IsFetched}
use Rattle.sim_view.specs.View.{View, view, view_of}
use Rattle.sim_view.specs.Exits.{Exits}
use Rattle.sim_operands.specs.Subroutines.{grom_at, after_seek}

fetched_at : (v : View) → IsFetched (grom_at v.grom.image v.r.r6)
fetched_at v = ap (slice_index v.grom.image) (sym (previous-next v.r.r6))

-- the byte that was sought has been fetched ahead
pub fetched_after_seek : (x y : MachineState) (before after : ℕ) → Exits x y before after (after_seek (view x)) →
    IsFetched y.cpu.memory.grom
unfolding view_of
fetched_after_seek x y before after e = subst IsFetched (sym (ap (λ (v : View). v.grom) e.shows)) (fetched_at (view x))
