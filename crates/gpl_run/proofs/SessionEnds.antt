-- A machine at the end of a run is the machine of a session.
use Rattle.std.proofs.Common.{Option, Some, None}
use Rattle.console_defs.specs.Machine.{MachineState}
use Rattle.gpl_step_defs.specs.declared.reason.Reason.{Reason}
use Rattle.gpl_step_defs.specs.State.{GplState}
use Rattle.interp_defs.specs.Programs.{EndsAs}
use Rattle.gpl_run.specs.Sessions.{IsSession}

pub is_session : (stop : Option Reason) (last : GplState) (y : MachineState) → EndsAs stop last y → IsSession y stop
is_session None last y ends = ends.matching
is_session (Some reason) last y ends = (last, ends)
