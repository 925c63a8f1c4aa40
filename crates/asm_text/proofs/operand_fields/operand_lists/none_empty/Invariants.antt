use Rattle.std.proofs.Common.{◌≡◌}
use Rattle.std.specs.Prelude.{map}
use Rattle.source_defs.specs.Lines.{part}
use Rattle.source_defs.specs.Operands.{OperandsLieInside}
use Rattle.source_defs.specs.Operands.{operand_texts}
use Rattle.source_defs.specs.OperandLists.{none_empty}
use Rattle.asm_text.proofs.operand_fields.operand_lists.none_empty.Given as goal

abbrev pub invariant-loop-span : goal.invariant-loop-span
invariant-loop-span l = record {
  inside : OperandsLieInside l.field l.span-iterator;
  same : none_empty (map (part l.field) l.span-iterator) ≡ none_empty (operand_texts l.field);
}
