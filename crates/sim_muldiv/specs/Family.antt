-- The operations of this family.
use Rattle.std.specs.Prelude.{Bool, false, Option, Some, true}
use Rattle.sim_rows.specs.Prelude.{DIV, GplOperation, MUL, Two}

abbrev pub is_muldiv : Option GplOperation → Bool
is_muldiv (Some (Two MUL)) = true
is_muldiv (Some (Two DIV)) = true
is_muldiv _ = false
