-- What the results of the code say.
use Rattle.std.specs.Prelude.{Result, Ok, Err}
use Rattle.tms_defs.specs.Accesses.{Answer, Gives, AtPort}
use Rattle.tms_defs.specs.declared.port_stop.PortStop.{PortStop}

-- The outcome of a call, with what it left.
abbrev pub left_by : {X Y : Type 0} → Result X PortStop → (X → Y) → Answer Y
left_by (Ok x) left = Gives (left x)
left_by (Err stop) left = AtPort stop.0
