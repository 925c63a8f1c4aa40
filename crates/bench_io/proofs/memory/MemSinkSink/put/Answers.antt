use Rattle.std.proofs.Common.{rules}
use Rattle.bench_io.proofs.memory.MemSinkSink.put.Goals as goal

pub returns-then-contains-clause-fails : goal.returns-then-contains-clause-fails
returns-then-contains-clause-fails c = search rules

pub returns-clause-ok : goal.returns-clause-ok
returns-clause-ok c = search rules
