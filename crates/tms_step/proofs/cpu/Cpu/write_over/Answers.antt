use Rattle.tms_step.proofs.PutBack.{write_over-undone}
use Rattle.tms_step.proofs.cpu.Cpu.write_over.Goals as goal

pub returns-clause-undo : goal.returns-clause-undo
returns-clause-undo c =
    write_over-undone c.args.self.now c.write_word.new.self c.args.address c.args.word c.args.old
    c.holds_bounds.ensures.memory c.requires c.in_ok-write_word.ensures.value
