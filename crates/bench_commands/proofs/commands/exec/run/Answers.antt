use Rattle.std.proofs.Common.{rules}
use Rattle.bench_commands.proofs.commands.exec.run.Goals as goal

pub returns : goal.returns
returns c = search rules
