use Rattle.std.proofs.Common.{◌≡◌, ◌≤◌, ◌+◌, ◌*◌, length}
use Rattle.std.specs.Prelude.{map}
use Rattle.expression_defs.specs.Symbols.{look_up}
use Rattle.source_defs.specs.Lines.{part}
use Rattle.source_defs.specs.Operands.{OperandsLieInside}
use Rattle.source_defs.specs.Operands.{operand_texts}
use Rattle.asm_forms.specs.Placed.{model_of_words}
use Rattle.asm_defs.specs.SecondChecks.{data_values}
use Rattle.source_defs.specs.Refusals.{prepended}
use Rattle.asm_checks.proofs.values.Scope.data_words.Given as goal

-- the words so far, and of the operands that are left
abbrev pub invariant-loop-span : goal.invariant-loop-span
invariant-loop-span l = record {
  inside : OperandsLieInside l.field l.span-iterator;
  room : l.place.number + 2 * length l.span-iterator ≤ 66050;
  so_far : prepended (model_of_words l.words.items) (data_values (look_up l.self.symbols.now) l.self.at l.place (map (part l.field) l.span-iterator))
      ≡ data_values (look_up l.self.symbols.now) l.self.at l.self.at (operand_texts l.field);
}
