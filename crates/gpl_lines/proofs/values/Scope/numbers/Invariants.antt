use Rattle.std.proofs.Common.{◌≡◌}
use Rattle.std.specs.Prelude.{map}
use Rattle.source_defs.specs.Refusals.{prepended}
use Rattle.expression_defs.specs.Symbols.{look_up}
use Rattle.source_defs.specs.Lines.{part}
use Rattle.source_defs.specs.Operands.{OperandsLieInside, operand_texts}
use Rattle.gpl_source_defs.specs.Locations.{address_of}
use Rattle.gpl_source_defs.specs.Values.{numbers}
use Rattle.gpl_lines.proofs.values.Scope.numbers.Given as goal

-- the numbers so far, and of the operands that are left
abbrev pub invariant-loop-span : goal.invariant-loop-span
invariant-loop-span l = record {
  inside : OperandsLieInside l.field l.span-iterator;
  so_far : prepended l.numbers.items (numbers (look_up l.self.symbols.now) (address_of l.self.at) (map (part l.field) l.span-iterator))
      ≡ numbers (look_up l.self.symbols.now) (address_of l.self.at) (operand_texts l.field);
}
