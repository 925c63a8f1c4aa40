use Rattle.std.proofs.lemmas.List.{take-replicate}
use Rattle.report_lines.proofs.line.blanks.Goals as goal

pub returns-clause-blanks : goal.returns-clause-blanks
returns-clause-blanks c = take-replicate c.args.count 10 0x20 c.requires
