use Rattle.std.proofs.Common.{◌≡◌, ◌<◌, drop}
use Rattle.gpl_defs.specs.Reading.{are_bytes_at}
use Rattle.gpl_forms.proofs.read.holds_bytes_at.Given as goal

-- what is left of the bytes decides from the place on
abbrev pub invariant-loop-byte : goal.invariant-loop-byte
invariant-loop-byte l = record {
  left : are_bytes_at l.image l.fn.bytes l.fn.at ≡ are_bytes_at l.image (drop l.byte-index l.bytes) l.place;
  fits : l.place < 65536;
}
