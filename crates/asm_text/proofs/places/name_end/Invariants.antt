use Rattle.std.proofs.Common.{◌≡◌}
use Rattle.expression_defs.specs.Tokens.{name_end}
use Rattle.asm_text.proofs.places.name_end.Given as goal

abbrev pub invariant-loop-at : goal.invariant-loop-at
invariant-loop-at l = name_end l.text l.at ≡ name_end l.text l.fn.from
