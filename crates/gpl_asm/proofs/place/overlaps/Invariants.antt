use Rattle.std.proofs.Common.{◌≡◌, ◌+◌, length}
use Rattle.gpl_source_defs.specs.Programs.{overlaps}
use Rattle.gpl_asm.proofs.place.overlaps.Given as goal

-- those that are left overlap as all do
abbrev pub invariant-loop-rest : goal.invariant-loop-rest
invariant-loop-rest l =
    (l.place + length l.rest ≡ l.at + length l.bytes) × (overlaps l.image l.place l.rest ≡ overlaps l.image l.at l.bytes)

abbrev pub decreases-loop-rest : goal.decreases-loop-rest
decreases-loop-rest l = length l.rest
