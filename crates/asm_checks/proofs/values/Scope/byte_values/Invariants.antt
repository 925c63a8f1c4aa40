use Rattle.std.proofs.Common.{◌≡◌}
use Rattle.std.specs.Prelude.{map}
use Rattle.expression_defs.specs.Symbols.{look_up}
use Rattle.source_defs.specs.Lines.{part}
use Rattle.source_defs.specs.Operands.{OperandsLieInside}
use Rattle.source_defs.specs.Operands.{operand_texts}
use Rattle.asm_defs.specs.SecondChecks.{byte_values}
use Rattle.source_defs.specs.Refusals.{prepended}
use Rattle.asm_checks.proofs.values.Scope.byte_values.Given as goal

-- the values so far, and of the operands that are left
abbrev pub invariant-loop-span : goal.invariant-loop-span
invariant-loop-span l = record {
  inside : OperandsLieInside l.field l.span-iterator;
  so_far : prepended l.numbers.items (byte_values (look_up l.self.symbols.now) l.self.at (map (part l.field) l.span-iterator))
      ≡ byte_values (look_up l.self.symbols.now) l.self.at (operand_texts l.field);
}
