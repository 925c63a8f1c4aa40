use Rattle.std.proofs.Common.{Option, ap, sym, ◌∙◌, lit<}
use Rattle.gpl_step_defs.specs.declared.reason.Reason.{Reason}
use Rattle.sim_view.proofs.Bridge.{reg_word}
use Rattle.gpl_run.specs.Sessions.{SessionState, address_in}
use Rattle.gpl_run.proofs.session.Session.pc.Goals as goal

pub returns-in-Some : goal.returns-in-Some
returns-in-Some c =
    let x = c.self.inside.machine in
    c.register.ensures
    ∙ reg_word x.cpu.memory 1 c.holds_bounds.ensures.memory (lit< tt)
    ∙ sym (ap (λ (ended : Option Reason). address_in ended x) c.in-Some.is)
    ∙ ap (λ (s : SessionState). address_in s.ended s.machine) c.self.view_is
