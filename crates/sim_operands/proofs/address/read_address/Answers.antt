use Rattle.std.proofs.Common.{ℕ, ◌∙◌, ap, eqb}
use Rattle.sim_view.proofs.Common.{is_view, piece}
use Rattle.sim_operands.proofs.Paths
use Rattle.sim_operands.proofs.address.read_address.Goals as goal
use Rattle.sim_view.specs.native_interp.declared.addresses.TheConstants.{ASHORT}

pub returns-clause-exits : goal.returns-clause-exits
returns-clause-exits g c = piece c.requires (Paths.address _ (is_view _ c.requires.machine)) c.run_piece.ensures

pub returns-clause-short : goal.returns-clause-short
returns-clause-short g c =
    let e = piece c.requires (Paths.address _ (is_view _ c.requires.machine)) c.run_piece.ensures in
    ap (λ (pc : ℕ). eqb pc ASHORT) (c.pc.ensures.value ∙ e.is_at.pc)
