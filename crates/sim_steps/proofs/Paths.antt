-- The runs of the pieces on the view.
use Rattle.std.proofs.Common.{[], ◌∷◌, refl}
use Rattle.sim_rows.proofs.Common.{GBOOT, Leads, SEEK, UNKN, View}
use Rattle.sim_steps.specs.Pieces as pieces

pub boot : (v : View) → Leads (SEEK ∷ []) v GBOOT (pieces.boot v)
boot v = record { by = λ f q. refl }

pub stop_code : (v : View) → Leads [] v UNKN (pieces.stop_code v)
stop_code v = record { by = λ f q. refl }
