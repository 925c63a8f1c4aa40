-- The operations of this family are rows.
use Rattle.std.proofs.Common.{◌≡◌, Option, refl, Some, true}
use Rattle.sim_rows.proofs.Common.{GplOperation, is_row, One, Two}
use Rattle.sim_alu.specs.Family.{is_alu}

pub rows : (o : Option GplOperation) → is_alu o ≡ true → is_row o ≡ true
rows (Some (One op)) e = refl
rows (Some (Two op)) e = refl
rows _ e = absurd (cc)
