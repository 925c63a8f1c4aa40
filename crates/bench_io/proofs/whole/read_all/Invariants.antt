use Rattle.std.proofs.Common.{◌≡◌, ◌≤◌, ◌+◌, ◌-◌, length}
use Rattle.bench_io.specs.ReadAll.{Consumed}
use Rattle.bench_io.proofs.whole.read_all.Given as goal

-- the bytes so far are what the source gave, by calls that each gave some
abbrev pub invariant-loop-bytes : goal.invariant-loop-bytes
invariant-loop-bytes g l =
    let state = g.S.Source.state in
    record {
      consumed : Consumed (state l.fn.source) (state l.source) l.bytes.items 0;
      within : length l.bytes.items ≤ l.limit;
      piece : length l.buffer ≡ 4096;
      kept : g.S.Source.kept l.source ≡ g.S.Source.kept l.fn.source;
    }

abbrev pub decreases-loop-bytes : goal.decreases-loop-bytes
decreases-loop-bytes g l = l.limit + 1 - length l.bytes.items
