-- The shifts among the operations.
use Rattle.std.specs.Prelude.{ℕ, Bool, false, Option, Some, true}
use Rattle.sim_rows.specs.Prelude.{GplOperation, ShiftOp, SLL, SLLB, SLLV, SRAB, SRAV, SRCB, SRCV, SRLB, SRLV, Two}
use Rattle.sim_rows.specs.Prelude.{TwoName}
use Rattle.sim_rows.specs.gpl_defs.declared.instruction.TwoName.TheVariants.{SRA, SRC, SRL}
use Rattle.sim_rows.specs.tms_defs.declared.instruction.ShiftOp.TheVariants as shift

abbrev pub is_shift : Option GplOperation → Bool
is_shift (Some (Two SRA)) = true
is_shift (Some (Two SLL)) = true
is_shift (Some (Two SRL)) = true
is_shift (Some (Two SRC)) = true
is_shift _ = false

-- The processor's shift that runs each of them; SRC is what it is for all others.
abbrev pub shift_of : GplOperation → ShiftOp
shift_of (Two SRA) = shift.SRA
shift_of (Two SLL) = shift.SLA
shift_of (Two SRL) = shift.SRL
shift_of _ = shift.SRC

abbrev pub name_of : ShiftOp → TwoName
name_of shift.SRA = SRA
name_of shift.SLA = SLL
name_of shift.SRL = SRL
name_of shift.SRC = SRC

-- Where the row of a shift begins, and where it goes on after COUNT.
abbrev pub count_entry : ShiftOp → ℕ
count_entry shift.SRA = SRAV
count_entry shift.SLA = SLLV
count_entry shift.SRL = SRLV
count_entry shift.SRC = SRCV

abbrev pub shift_entry : ShiftOp → ℕ
shift_entry shift.SRA = SRAB
shift_entry shift.SLA = SLLB
shift_entry shift.SRL = SRLB
shift_entry shift.SRC = SRCB
