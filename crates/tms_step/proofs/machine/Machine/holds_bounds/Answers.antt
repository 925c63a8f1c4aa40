use Rattle.std.proofs.Common.{rules, subst}
use Rattle.console_defs.specs.Machine.{IsMachine}
use Rattle.tms_step.proofs.machine.Machine.holds_bounds.Goals as goal

pub returns : goal.returns
returns c =
    subst IsMachine c.self.view_is
    (record {
      memory = c.holds_bounds.ensures.memory;
      status = c.holds_bounds.ensures.status;
      even_pc = c.holds_bounds.ensures.even_pc;
      even_wp = c.holds_bounds.ensures.even_wp;
      pc = c.holds_bounds.ensures.pc;
      wp = c.holds_bounds.ensures.wp;
      count = search rules;
    })
