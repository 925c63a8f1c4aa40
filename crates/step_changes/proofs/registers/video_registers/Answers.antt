use Rattle.step_changes.proofs.Eight.{eight}
use Rattle.step_changes.proofs.registers.video_registers.Goals as goal

pub returns : goal.returns
returns c =
    rw (
      c.register.ensures,
      c.register-2.ensures,
      c.register-3.ensures,
      c.register-4.ensures,
      c.register-5.ensures,
      c.register-6.ensures,
      c.register-7.ensures,
      c.register-8.ensures,
    )
    (eight c.args.vdp.now.registers c.holds_bounds.ensures.registers.size)
