-- What a line that waits says has room in its part.
use Rattle.std.specs.Prelude.{◌+◌, ℕ, Bool, false, nat_le, List, Result, Ok, Err}
use Rattle.asm_defs.specs.declared.causes.AsmCause.{AsmCause}
use Rattle.asm_defs.specs.declared.location.Location.{Location}
use Rattle.asm_defs.specs.Statements.{Statement, parse_line}
use Rattle.asm_defs.specs.Growing.{declared_size}

abbrev pub has_room_by : Location → Result Statement AsmCause → Bool
has_room_by at (Ok statement) = nat_le (at.number + declared_size statement) 65536
has_room_by at (Err cause) = false

-- a line says something, which ends before its part does
abbrev pub has_room : Location → List ℕ → Bool
has_room at text = has_room_by at (parse_line text)
