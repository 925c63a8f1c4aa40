use Rattle.std.proofs.Common.{ℕ, ◌∙◌, ap, eqb}
use Rattle.sim_view.proofs.Common.{INDEX, is_view, piece}
use Rattle.sim_operands.proofs.Paths
use Rattle.sim_operands.proofs.address.read_pointer.Goals as goal

pub returns-clause-exits : goal.returns-clause-exits
returns-clause-exits g c = piece c.requires (Paths.pointer _ (is_view _ c.requires.machine)) c.run_piece.ensures

pub returns-clause-went : goal.returns-clause-went
returns-clause-went g c =
    let e = piece c.requires (Paths.pointer _ (is_view _ c.requires.machine)) c.run_piece.ensures in
    ap (λ (pc : ℕ). eqb pc INDEX) (c.pc.ensures.value ∙ e.is_at.pc)
