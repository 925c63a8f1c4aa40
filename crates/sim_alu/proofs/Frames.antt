-- What every piece of the family leaves as it was, and where it ends.
use Rattle.std.proofs.Common.{◌≡◌, ◌⊎◌, inl, inr, refl, Some, true}
use Rattle.sim_rows.proofs.Common.{Exit, GplOperation, STATB, STO, STORE, View}
use Rattle.sim_alu.specs.Family.{is_alu, result_piece}
use Rattle.sim_rows.specs.gpl_defs.declared.instruction.OneName.TheVariants as one
use Rattle.sim_rows.specs.gpl_defs.declared.instruction.TwoName.TheVariants as two
use Rattle.sim_rows.specs.gpl_defs.declared.instruction.GplOperation.TheVariants as operation

-- It ends at STO, or at STORE, which returns to STATB.
abbrev pub Ends : Exit → Type 0
Ends e = (e.to ≡ STO) ⊎ ((e.to ≡ STORE) × (e.left.r.r11 ≡ STATB))

-- the place and the width of the result, and the ports
pub record Frame (v : View) (e : Exit) : Type 0 where
  pub r3 : e.left.r.r3 ≡ v.r.r3
  pub r7 : e.left.r.r7 ≡ v.r.r7
  pub r8 : e.left.r.r8 ≡ v.r.r8
  pub vdp : e.left.vdp ≡ v.vdp
  pub grom : e.left.grom ≡ v.grom
  pub ends : Ends e

pub frame : (op : GplOperation) (v : View) → is_alu (Some op) ≡ true → Frame v (result_piece op v)
frame (operation.One one.ABS) v f = record { r3 = refl; r7 = refl; r8 = refl; vdp = refl; grom = refl; ends = inr (refl, refl) }
frame (operation.One one.NEG) v f = record { r3 = refl; r7 = refl; r8 = refl; vdp = refl; grom = refl; ends = inr (refl, refl) }
frame (operation.One one.INV) v f = record { r3 = refl; r7 = refl; r8 = refl; vdp = refl; grom = refl; ends = inl refl }
frame (operation.One one.CLR) v f = record { r3 = refl; r7 = refl; r8 = refl; vdp = refl; grom = refl; ends = inl refl }
frame (operation.One one.INC) v f = record { r3 = refl; r7 = refl; r8 = refl; vdp = refl; grom = refl; ends = inr (refl, refl) }
frame (operation.One one.DEC) v f = record { r3 = refl; r7 = refl; r8 = refl; vdp = refl; grom = refl; ends = inr (refl, refl) }
frame (operation.One one.INCT) v f = record { r3 = refl; r7 = refl; r8 = refl; vdp = refl; grom = refl; ends = inr (refl, refl) }
frame (operation.One one.DECT) v f = record { r3 = refl; r7 = refl; r8 = refl; vdp = refl; grom = refl; ends = inr (refl, refl) }
frame (operation.Two two.ADD) v f = record { r3 = refl; r7 = refl; r8 = refl; vdp = refl; grom = refl; ends = inr (refl, refl) }
frame (operation.Two two.SUB) v f = record { r3 = refl; r7 = refl; r8 = refl; vdp = refl; grom = refl; ends = inr (refl, refl) }
frame (operation.Two two.AND) v f = record { r3 = refl; r7 = refl; r8 = refl; vdp = refl; grom = refl; ends = inl refl }
frame (operation.Two two.OR) v f = record { r3 = refl; r7 = refl; r8 = refl; vdp = refl; grom = refl; ends = inl refl }
frame (operation.Two two.XOR) v f = record { r3 = refl; r7 = refl; r8 = refl; vdp = refl; grom = refl; ends = inl refl }
frame (operation.Two two.ST) v f = record { r3 = refl; r7 = refl; r8 = refl; vdp = refl; grom = refl; ends = inl refl }
frame _ v f = absurd (cc)
