use Rattle.std.proofs.Common.{◌≡◌}
use Rattle.std.specs.Prelude.{map}
use Rattle.source_defs.specs.Lines.{part}
use Rattle.source_defs.specs.Operands.{OperandsLieInside}
use Rattle.source_defs.specs.Operands.{operand_texts}
use Rattle.asm_defs.specs.Statements.{all_names}
use Rattle.asm_checks.proofs.name_lists.all_names.Given as goal

abbrev pub invariant-loop-span : goal.invariant-loop-span
invariant-loop-span l = record {
  inside : OperandsLieInside l.field l.span-iterator;
  same : all_names (map (part l.field) l.span-iterator) ≡ all_names (operand_texts l.field);
}
