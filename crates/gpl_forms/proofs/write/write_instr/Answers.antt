use Rattle.gpl_defs.proofs.MeaningLaws.{bytes_read}
use Rattle.gpl_defs.proofs.ShortLaws.{bytes_shortest}
use Rattle.gpl_forms.proofs.write.write_instr.Goals as goal

pub returns-clause-shortest : goal.returns-clause-shortest
returns-clause-shortest c = rw c.written.ensures (bytes_shortest c.args.instr.now c.requires)

pub returns-clause-read : goal.returns-clause-read
returns-clause-read c = rw c.written.ensures (bytes_read c.args.instr.now c.requires)
