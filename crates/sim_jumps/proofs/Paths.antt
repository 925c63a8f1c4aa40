-- The runs of the pieces on the view.
use Rattle.std.proofs.Common.{[], ◌∷◌, refl}
pub use Rattle.sim_rows.proofs.Common.{piece}
use Rattle.sim_rows.proofs.Common.{GOTO, Leads, RESUME, SHOW, TAKE, View}
use Rattle.sim_jumps.specs.Pieces as pieces

pub go_to : (v : View) → Leads [] v GOTO (pieces.go_to v)
go_to v = record { by = λ f q. refl }

pub take_branch : (v : View) → Leads (GOTO ∷ []) v TAKE (pieces.take_branch v)
take_branch v = record { by = λ f q. refl }

pub resume : (v : View) → Leads (SHOW ∷ []) v RESUME (pieces.resume v)
resume v = record { by = λ f q. refl }
