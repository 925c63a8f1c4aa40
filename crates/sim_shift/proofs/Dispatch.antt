-- The operations of this family are rows, each of one shift.
use Rattle.std.proofs.Common.{ℕ, ◌∙◌, ◌≡◌, ap, Option, refl, Some, subst, true}
use Rattle.sim_rows.specs.Prelude.{AtEntry}
use Rattle.sim_rows.proofs.Common.{GplOperation, is_row, MachineState, One, row_entry, ShiftOp, IsAt, Two}
use Rattle.sim_shift.specs.Family.{count_entry, is_shift, name_of, shift_of}
use Rattle.sim_rows.specs.tms_defs.declared.instruction.ShiftOp.TheVariants as shift
use Rattle.sim_rows.specs.gpl_defs.declared.instruction.TwoName.TheVariants as two

pub rows : (o : Option GplOperation) → is_shift o ≡ true → is_row o ≡ true
rows (Some (One op)) e = refl
rows (Some (Two op)) e = refl
rows _ e = absurd (cc)

pub named : (operation : GplOperation) → is_shift (Some operation) ≡ true → operation ≡ Two (name_of (shift_of operation))
named (Two two.SRA) e = refl
named (Two two.SLL) e = refl
named (Two two.SRL) e = refl
named (Two two.SRC) e = refl
named _ e = absurd (cc)

entry_is : (op : ShiftOp) → row_entry (Some (Two (name_of op))) ≡ count_entry op
entry_is shift.SRA = refl
entry_is shift.SLA = refl
entry_is shift.SRL = refl
entry_is shift.SRC = refl

pub counts : {operation : GplOperation} {x : MachineState} → AtEntry is_shift operation x → IsAt x (count_entry (shift_of operation))
counts {operation = operation} {x = x} at =
    subst (λ (n : ℕ). IsAt x n)
    (ap (λ (o : GplOperation). row_entry (Some o)) (named operation at.family) ∙ entry_is (shift_of operation)) at.is_at
