-- The operations of this family: CALL, RTN and RTNC, and the rows FETCH and PUSH.
use Rattle.std.specs.Prelude.{Bool, false, Option, Some, true}
use Rattle.sim_rows.specs.Prelude.{CALL, GplOperation, Jump, One, Plain, PUSH, RTN, RTNC}
use Rattle.sim_rows.specs.gpl_defs.declared.instruction.OneName.TheVariants.{FETCH}

abbrev pub is_stack_row : Option GplOperation → Bool
is_stack_row (Some (One FETCH)) = true
is_stack_row (Some (One PUSH)) = true
is_stack_row _ = false

abbrev pub is_stack : Option GplOperation → Bool
is_stack (Some (Plain RTN)) = true
is_stack (Some (Plain RTNC)) = true
is_stack (Some (Jump CALL)) = true
is_stack (Some (One FETCH)) = true
is_stack (Some (One PUSH)) = true
is_stack _ = false
