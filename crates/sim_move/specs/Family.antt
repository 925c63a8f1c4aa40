-- The operations of this family: MOVE in all its forms.
use Rattle.std.specs.Prelude.{Bool, false, Option, Some, true}
use Rattle.sim_rows.specs.Prelude.{GplOperation, Move}

abbrev pub is_move : Option GplOperation → Bool
is_move (Some (Move kind)) = true
is_move _ = false
