-- The numbers of the reasons.
use Rattle.std.specs.Prelude.{ℕ}
use Rattle.gpl_step_defs.specs.declared.reason.Reason.{Reason}
use Rattle.gpl_step_defs.specs.declared.reason.Reason.TheVariants.{Exit, Opcode, Cell, Stack, Length, Register}

-- Profile: as they are numbered, and as the interpreter leaves them.
abbrev pub number_of : Reason → ℕ
number_of Exit = 0
number_of Opcode = 1
number_of Cell = 2
number_of Stack = 3
number_of Length = 4
number_of Register = 5
