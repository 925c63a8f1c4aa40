-- The operations of the families.
use Rattle.std.proofs.Common.{◌≡◌, false, None, Option, refl, Some}
use Rattle.sim_rows.proofs.Common.{ALL, B, BACK, CALL, CARRY, EXIT, GplOperation, GT, H, is_turn_end, operation_entry, OVF, RAND, RTN, RTNC}
use Rattle.sim_rows.proofs.Family.{starts_row}
use Rattle.sim_rows.specs.gpl_defs.declared.instruction.GplOperation.TheVariants as operation

-- no entry is an end
pub enters : (o : Option GplOperation) → is_turn_end (operation_entry o) ≡ false
enters (Some (operation.Plain RTN)) = refl
enters (Some (operation.Plain RTNC)) = refl
enters (Some (operation.Plain H)) = refl
enters (Some (operation.Plain GT)) = refl
enters (Some (operation.Plain EXIT)) = refl
enters (Some (operation.Plain CARRY)) = refl
enters (Some (operation.Plain OVF)) = refl
enters (Some (operation.Byte RAND)) = refl
enters (Some (operation.Byte BACK)) = refl
enters (Some (operation.Byte ALL)) = refl
enters (Some (operation.Jump B)) = refl
enters (Some (operation.Jump CALL)) = refl
enters (Some (operation.Branch on)) = refl
enters (Some (operation.One op)) = refl
enters (Some (operation.Two op)) = starts_row (Some (operation.Two op)) refl
enters (Some (operation.Move kind)) = refl
enters None = refl
