use Rattle.std.proofs.Common.{◌≡◌, ◌++◌, true}
use Rattle.std.specs.Prelude.{map}
use Rattle.source_defs.specs.Lines.{part}
use Rattle.source_defs.specs.Operands.{OperandsLieInside}
use Rattle.source_defs.specs.Operands.{operand_texts}
use Rattle.asm_defs.specs.Statements.{all_names, upper_names}
use Rattle.asm_checks.proofs.names.names_in.Given as goal

-- the names so far, and of the operands that are left
abbrev pub invariant-loop-span : goal.invariant-loop-span
invariant-loop-span l = record {
  inside : OperandsLieInside l.field l.span-iterator;
  left : all_names (map (part l.field) l.span-iterator) ≡ true;
  so_far : l.names.items ++ upper_names (map (part l.field) l.span-iterator) ≡ upper_names (operand_texts l.field);
}
