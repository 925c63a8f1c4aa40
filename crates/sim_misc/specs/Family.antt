-- The operations of this family: EX, RAND, BACK and ALL.
use Rattle.std.specs.Prelude.{Bool, false, Option, Some, true}
use Rattle.sim_rows.specs.Prelude.{ALL, BACK, EX, GplOperation, RAND, Two}
use Rattle.sim_rows.specs.gpl_defs.declared.instruction.GplOperation.TheVariants.{Byte}

abbrev pub is_misc : Option GplOperation → Bool
is_misc (Some (Byte RAND)) = true
is_misc (Some (Byte BACK)) = true
is_misc (Some (Byte ALL)) = true
is_misc (Some (Two EX)) = true
is_misc _ = false

-- EX, which is a row
abbrev pub is_exchange : Option GplOperation → Bool
is_exchange (Some (Two EX)) = true
is_exchange _ = false
