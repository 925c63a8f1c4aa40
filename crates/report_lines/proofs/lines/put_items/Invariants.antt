use Rattle.std.proofs.Common.{drop}
use Rattle.std.specs.List.{flat_map}
use Rattle.bench_io.proofs.Progress.{Listed}
use Rattle.report_lines.proofs.lines.put_items.Given as goal

-- the lines of the items that are left
abbrev pub invariant-loop-item : goal.invariant-loop-item
invariant-loop-item g l =
    let state = g.O.Sink.state in
    let lines = g.T.InLines.lines in
    Listed (state l.fn.out) (state l.out) (flat_map lines l.items) (flat_map lines (drop l.item-index l.items))
