use Rattle.std.proofs.Common.{◌≤◌, ◌-◌, map}
use Rattle.source_defs.specs.ListedLines.{listing_line}
use Rattle.bench_io.proofs.Progress.{Listed}
use Rattle.gpl_listing_defs.specs.Listing.{texts_between}
use Rattle.gpl_disasm.proofs.listing.put_lines.Given as goal

-- the lines that are left
abbrev pub invariant-loop-at : goal.invariant-loop-at
invariant-loop-at g l =
    let state = g.O.Sink.state in record {
      listed : Listed (state l.fn.out) (state l.out) (map listing_line (texts_between l.image l.low l.high l.low)) (map listing_line (texts_between l.image l.low l.high l.at));
      within : l.high ≤ 65536;
    }

abbrev pub decreases-loop-at : goal.decreases-loop-at
decreases-loop-at g l = l.high - l.at
