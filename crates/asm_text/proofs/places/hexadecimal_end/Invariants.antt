use Rattle.std.proofs.Common.{◌≡◌}
use Rattle.expression_defs.specs.Tokens.{hexadecimal_end}
use Rattle.asm_text.proofs.places.hexadecimal_end.Given as goal

abbrev pub invariant-loop-at : goal.invariant-loop-at
invariant-loop-at l = hexadecimal_end l.text l.at ≡ hexadecimal_end l.text l.fn.from
