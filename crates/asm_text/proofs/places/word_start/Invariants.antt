use Rattle.std.proofs.Common.{◌≡◌}
use Rattle.source_defs.specs.Fields.{word_start}
use Rattle.asm_text.proofs.places.word_start.Given as goal

abbrev pub invariant-loop-at : goal.invariant-loop-at
invariant-loop-at l = word_start l.line l.at ≡ word_start l.line l.fn.from
