use Rattle.std.proofs.Common.{rules}
use Rattle.bench_io.proofs.memory.MemSourceSource.take.Goals as goal

pub returns-then-contains-clause-fails : goal.returns-then-contains-clause-fails
returns-then-contains-clause-fails c = search rules
