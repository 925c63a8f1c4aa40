use Rattle.std.proofs.Common.{ℕ, ◌∙◌, ap, eqb, not}
use Rattle.sim_rows.proofs.Common.{piece, STO}
use Rattle.sim_shift.proofs.Paths
use Rattle.sim_shift.proofs.pieces.take_count.Goals as goal

pub returns-clause-exits : goal.returns-clause-exits
returns-clause-exits g c =
    piece c.requires (Paths.take_count _) c.run_piece.ensures

pub returns-clause-some : goal.returns-clause-some
returns-clause-some g c =
    let e = piece c.requires (Paths.take_count _) c.run_piece.ensures in
    ap (λ (pc : ℕ). not (eqb pc STO)) (c.pc.ensures.value ∙ e.is_at.pc)
