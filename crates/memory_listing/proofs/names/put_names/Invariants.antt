use Rattle.std.proofs.Common.{drop, map}
use Rattle.report_defs.specs.MemoryListing.{name_line}
use Rattle.memory_listing.proofs.Progress.{Listed}
use Rattle.memory_listing.proofs.names.put_names.Given as goal

-- the lines of the names that are left
abbrev pub invariant-loop-named : goal.invariant-loop-named
invariant-loop-named g l =
    let state = g.O.Sink.state in
    Listed (state l.fn.out) (state l.out) (map name_line l.names) (map name_line (drop l.named-index l.names))
