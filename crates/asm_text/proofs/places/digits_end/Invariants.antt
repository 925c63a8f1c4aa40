use Rattle.std.proofs.Common.{◌≡◌}
use Rattle.expression_defs.specs.Tokens.{digits_end}
use Rattle.asm_text.proofs.places.digits_end.Given as goal

abbrev pub invariant-loop-at : goal.invariant-loop-at
invariant-loop-at l = digits_end l.text l.at ≡ digits_end l.text l.fn.from
