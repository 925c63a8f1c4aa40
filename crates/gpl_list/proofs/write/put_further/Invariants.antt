use Rattle.std.proofs.Common.{length}
use Rattle.bench_io.proofs.Progress.{Listed}
use Rattle.gpl_list_defs.specs.Text.{further_lines}
use Rattle.gpl_list.proofs.write.put_further.Given as goal

-- the rows that are left
abbrev pub invariant-loop-rest : goal.invariant-loop-rest
invariant-loop-rest g l =
    let state = g.O.Sink.state in
    Listed (state l.fn.out) (state l.out) (further_lines l.at l.bytes) (further_lines l.place l.rest)

abbrev pub decreases-loop-rest : goal.decreases-loop-rest
decreases-loop-rest g l = length l.rest
