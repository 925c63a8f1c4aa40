use Rattle.std.proofs.Common.{Option, sym, subst}
use Rattle.gpl_step_defs.specs.declared.reason.Reason.{Reason}
use Rattle.gpl_run.specs.Sessions.{IsSession}
use Rattle.gpl_run.proofs.SessionEnds.{is_session}
use Rattle.gpl_run.proofs.session.Session.run.Goals as goal

pub invariant_of-self : goal.invariant_of-self
invariant_of-self g c =
    let ran = c.run_turns-made.ensures in
    let y = c.run_turns-made.new.machine in
    subst (λ (stop : Option Reason). IsSession y stop) (sym ran.stop_is) (is_session _ _ y ran.runs.ends)
