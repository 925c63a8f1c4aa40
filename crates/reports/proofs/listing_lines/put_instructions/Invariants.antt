use Rattle.std.proofs.Common.{◌-◌, ◌≤◌, length}
use Rattle.reports.proofs.Listings.{Listed}
use Rattle.reports.proofs.listing_lines.put_instructions.Given as goal

-- the lines up to the place were written
abbrev pub invariant-loop-place : goal.invariant-loop-place
invariant-loop-place g l =
    let state = g.O.Sink.state in
    record { listed : Listed l.at l.bytes l.place (state l.fn.out) (state l.out); within : l.place ≤ length l.bytes }

abbrev pub decreases-loop-place : goal.decreases-loop-place
decreases-loop-place g l = length l.bytes - l.place
