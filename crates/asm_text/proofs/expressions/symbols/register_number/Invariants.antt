use Rattle.std.proofs.Common.{◌≡◌}
use Rattle.expression_defs.specs.Symbols.{registers}
use Rattle.expression_defs.proofs.SymbolLaws.{registers_from, found}
use Rattle.asm_text.proofs.expressions.symbols.register_number.Given as goal

-- the name is none of the registers so far
abbrev pub invariant-loop-number : goal.invariant-loop-number
invariant-loop-number l = found l.name (registers_from l.number) ≡ found l.name registers
