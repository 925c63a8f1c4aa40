use Rattle.std.proofs.Common.{◌≡◌}
use Rattle.source_defs.specs.Lines.{feed_place}
use Rattle.asm_text.proofs.places.last_feed_place.Given as goal

abbrev pub invariant-loop-at : goal.invariant-loop-at
invariant-loop-at l = feed_place l.text l.at ≡ feed_place l.text l.fn.from
