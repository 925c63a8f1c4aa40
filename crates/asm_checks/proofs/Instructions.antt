-- The outcome of an instruction, by what the first checks left of it.
use Rattle.std.proofs.Common.{◌≡◌, ℕ, List, sym, ap, subst}
use Rattle.std.specs.Prelude.{Option, Result}
use Rattle.source_defs.specs.Refusals.{◌>>=◌}
use Rattle.expression_defs.specs.Expression.{Value}
use Rattle.instruction_defs.specs.SecondChecks.{second_checks}
use Rattle.asm_forms.specs.Skeletons.{model_of_skeleton}
use Rattle.asm_defs.specs.declared.location.Location.{Location}
use Rattle.asm_defs.specs.Locations.{value_of}
use Rattle.asm_defs.specs.SecondChecks as spec
use Rattle.asm_checks.specs.Answers.{Gives}
use Rattle.asm_checks.specs.Defined.{IsLeftOf, KeepsSkeleton, model_of_statement}
use Rattle.asm_checks.specs.Outcomes.{model_of_outcome, words_by}
use Rattle.asm_checks.specs.declared.statement.InstructionLine.{InstructionLine}
use Rattle.asm_checks.specs.declared.statement.Statement.{Statement}
use Rattle.asm_checks.specs.declared.statement.Statement.TheVariants.{Instruction}
use Rattle.asm_checks.specs.declared.failure.Failure.{Failure}
use Rattle.asm_checks.specs.declared.second_checks.Outcome.{Outcome}

module _ (look : List ℕ → Option Value) (at : Location) (line : InstructionLine) where
  comes : IsLeftOf line
      → spec.outcome look at (model_of_statement (Instruction line))
      ≡ words_by (second_checks look (value_of at) (model_of_skeleton line.field.now line.skeleton))
  unfolding spec.outcome
  comes is = ap (λ skeleton. words_by (skeleton >>= λ skeleton. second_checks look (value_of at) skeleton)) is.checked

  -- of a statement that is this instruction
  pub instruction_given : (statement : Statement) → statement ≡ Instruction line → KeepsSkeleton statement → (result : Result Outcome Failure)
      → Gives model_of_outcome result (words_by (second_checks look (value_of at) (model_of_skeleton line.field.now line.skeleton)))
      → Gives model_of_outcome result (spec.outcome look at (model_of_statement statement))
  instruction_given statement e keeps result given =
      let is : IsLeftOf line = subst KeepsSkeleton e keeps in
      subst (λ (statement : Statement). Gives model_of_outcome result (spec.outcome look at (model_of_statement statement))) (sym e)
      (subst (Gives model_of_outcome result) (sym (comes is)) given)
