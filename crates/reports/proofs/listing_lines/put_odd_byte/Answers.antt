use Rattle.std.proofs.Common.{arith}
use Rattle.bench_io.proofs.Writes.{wrote_none}
use Rattle.reports.proofs.Listings.{odd_none, odd_last}
use Rattle.reports.proofs.listing_lines.put_odd_byte.Goals as goal

pub returns-then-bytes-eq0 : goal.returns-then-bytes-eq0
returns-then-bytes-eq0 g c = rw (odd_none c.args.bytes.now c.if-bytes-eq0.true) (wrote_none _)

pub returns : goal.returns
returns g c =
    rw (odd_last c.args.bytes.now (omega (arith, c.if-bytes-eq0.false)))
    (rw (c.as_slice.ensures.value, c.byte_line.ensures) at c.put_chunk.ensures)
