-- What is known of rows on views holds on the machine.
use Rattle.std.proofs.Common.{ℕ, ◌≡◌, arith, Option, refl, Some, true}
use Rattle.sim_rows.proofs.Common.{DIV, Exits, GplOperation, is_row, is_view, IsMachine, MachineState}
use Rattle.sim_rows.proofs.Common.{bound_of_quotient_row}
use Rattle.sim_rows.proofs.Common.{MUL, One, RunsRow, Two, view}
use Rattle.sim_rows.proofs.sim_view.Routines.{comes_by, ends_in}
use Rattle.sim_muldiv.specs.Family.{is_muldiv}
use Rattle.sim_muldiv.specs.Rows.{product, row}
use Rattle.sim_muldiv.proofs.Products.{multiplies}
use Rattle.sim_muldiv.proofs.Quotients.{divides}

-- The operations of this family are rows.
pub rows : (o : Option GplOperation) → is_muldiv o ≡ true → is_row o ≡ true
rows (Some (One op)) e = refl
rows (Some (Two op)) e = refl
rows _ e = absurd (cc)

pub runs_row : {x y : MachineState} {before after : ℕ} → IsMachine x → (op : GplOperation) →
    is_muldiv (Some op) ≡ true →
    Exits x y before after (row op (view x)) → RunsRow op bound_of_quotient_row x y before after
runs_row {x = x} machine (Two MUL) e run = λ s place source is at operands.
    comes_by run (ends_in (product (view x)) (multiplies s place source (view x) (is_view x machine) is at operands)
    (omega arith))
runs_row {x = x} machine (Two DIV) e run = λ s place source is at operands.
    comes_by run (divides s place source (view x) (is_view x machine) is at operands)
runs_row machine _ e run = absurd (cc)
