use Rattle.std.proofs.Common.{◌≡◌}
use Rattle.source_defs.specs.Fields.{word_end}
use Rattle.asm_text.proofs.places.word_end.Given as goal

abbrev pub invariant-loop-at : goal.invariant-loop-at
invariant-loop-at l = word_end l.line l.at ≡ word_end l.line l.fn.from
