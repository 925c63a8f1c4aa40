use Rattle.sim_muldiv.proofs.Paths
use Rattle.sim_muldiv.proofs.pieces.load_low_word.Goals as goal

pub returns : goal.returns
returns g c = Paths.piece c.requires (Paths.load_low_word _) c.run_piece.ensures
