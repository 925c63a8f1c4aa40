-- The operations of this family: EXIT, B, BR, BS and CASE.
use Rattle.std.specs.Prelude.{Bool, false, Option, Some, true}
use Rattle.sim_rows.specs.Prelude.{B, Branch, CASE, EXIT, GplOperation, Jump, One, Plain}

abbrev pub is_flow : Option GplOperation → Bool
is_flow (Some (Plain EXIT)) = true
is_flow (Some (Jump B)) = true
is_flow (Some (Branch on)) = true
is_flow (Some (One CASE)) = true
is_flow _ = false

-- CASE, which is a row
abbrev pub is_case : Option GplOperation → Bool
is_case (Some (One CASE)) = true
is_case _ = false
