-- A line whose names are known has the same outcome when more are known.
use Rattle.std.proofs.Common.{◌≡◌, ℕ, List, [], ◌∷◌, Some, Ok, Err, ap}
use Rattle.std.specs.Prelude.{Option, Result}
use Rattle.expression_defs.specs.declared.causes.ExprError.{ExprError}
use Rattle.source_defs.specs.Refusals.{◌>>=◌}
use Rattle.expression_defs.specs.Expression.{Value, absolute, known_value}
use Rattle.expression_defs.specs.Growing as expressions
use Rattle.expression_defs.proofs.GrowingLaws.{Stays, stays_same, stays_then, known_stays, expression_stays}
use Rattle.instruction_defs.specs.declared.causes.FormError.{FormError}
use Rattle.instruction_defs.specs.FirstChecks.{Skeleton, first_checks}
use Rattle.instruction_defs.specs.SecondChecks.{second_checks}
use Rattle.instruction_defs.specs.Growing as instructions
use Rattle.instruction_defs.proofs.GrowingLaws.{words_stay}
use Rattle.asm_defs.specs.declared.location.Location.{Location}
use Rattle.asm_defs.specs.Locations.{after, value_of}
use Rattle.asm_defs.specs.Statements.{Statement, Instruction, Data, Byte, Def, End, as_form}
use Rattle.asm_defs.specs.FirstChecks.{as_expr}
use Rattle.asm_defs.specs.SecondChecks.{used_at, entry_at, value, word_in, data_values, absolute_in, byte_values, defined_here}
use Rattle.asm_defs.specs.SecondChecks.{defs_known, entry_in, instruction_outcome, outcome}
use Rattle.asm_defs.specs.Growing.{is_unresolved}

expr_stays : {A : Type 0} (first second : Result A ExprError) → Stays expressions.is_unresolved first second → Stays is_unresolved (as_expr first) (as_expr second)
expr_stays (Ok value) second same closed = ap as_expr (same closed)
expr_stays (Err cause) second same closed = ap as_expr (same closed)

form_stays : {A : Type 0} (first second : Result A FormError) → Stays instructions.is_unresolved first second → Stays is_unresolved (as_form first) (as_form second)
form_stays (Ok value) second same closed = ap as_form (same closed)
form_stays (Err cause) second same closed = ap as_form (same closed)

module _ (look more : List ℕ → Option Value) (grows : (name : List ℕ) (value : Value) → look name ≡ Some value → more name ≡ Some value) (at : Location) where
  value_stays : (text : List ℕ) → Stays expressions.is_unresolved (value look at text) (value more at text)
  value_stays text = expression_stays look more grows (value_of at) text

  word_stays : (place : Location) (text : List ℕ) → Stays expressions.is_unresolved (word_in look at place text) (word_in more at place text)
  word_stays place text =
      stays_then expressions.is_unresolved (value look at text) (value more at text) _ _ (value_stays text) (λ value. stays_same expressions.is_unresolved (used_at place value))

  data_stays : (place : Location) (texts : List (List ℕ)) → Stays expressions.is_unresolved (data_values look at place texts) (data_values more at place texts)
  data_stays place [] = stays_same expressions.is_unresolved _
  data_stays place (text ∷ texts) =
      stays_then expressions.is_unresolved (word_in look at place text) (word_in more at place text) _ _ (word_stays place text)
      (λ first.
      stays_then expressions.is_unresolved (data_values look at (after place 2) texts) (data_values more at (after place 2) texts) _ _
      (data_stays (after place 2) texts) (λ others. stays_same expressions.is_unresolved _))

  absolute_stays : (text : List ℕ) → Stays expressions.is_unresolved (absolute_in look at text) (absolute_in more at text)
  absolute_stays text =
      stays_then expressions.is_unresolved (value look at text) (value more at text) _ _ (value_stays text) (λ value. stays_same expressions.is_unresolved (absolute value))

  bytes_stay : (texts : List (List ℕ)) → Stays expressions.is_unresolved (byte_values look at texts) (byte_values more at texts)
  bytes_stay [] = stays_same expressions.is_unresolved _
  bytes_stay (text ∷ texts) =
      stays_then expressions.is_unresolved (absolute_in look at text) (absolute_in more at text) _ _ (absolute_stays text)
      (λ first.
      stays_then expressions.is_unresolved (byte_values look at texts) (byte_values more at texts) _ _ (bytes_stay texts)
      (λ others. stays_same expressions.is_unresolved _))

  defs_stay : (names : List (List ℕ)) → Stays is_unresolved (defs_known look at names) (defs_known more at names)
  defs_stay [] = stays_same is_unresolved _
  defs_stay (name ∷ names) =
      stays_then is_unresolved (as_expr (known_value (look name))) (as_expr (known_value (more name))) _ _
      (expr_stays (known_value (look name)) (known_value (more name)) (known_stays (look name) (more name) (grows name)))
      (λ value. stays_then is_unresolved (defined_here value) (defined_here value) _ _ (stays_same is_unresolved (defined_here value)) (λ kept. defs_stay names))

  entry_stays : (text : List ℕ) → Stays expressions.is_unresolved (entry_in look at text) (entry_in more at text)
  entry_stays text =
      stays_then expressions.is_unresolved (value look at text) (value more at text) _ _ (value_stays text) (λ value. stays_same expressions.is_unresolved (entry_at value))

  skeleton_stays : (skeleton : Result Skeleton FormError)
      → Stays instructions.is_unresolved (skeleton >>= λ skeleton. second_checks look (value_of at) skeleton) (skeleton >>= λ skeleton. second_checks more (value_of at) skeleton)
  skeleton_stays skeleton =
      stays_then instructions.is_unresolved skeleton skeleton _ _ (stays_same instructions.is_unresolved skeleton) (λ skeleton. words_stay look more grows (value_of at) skeleton)

  instruction_stays : (operation field : List ℕ) → Stays is_unresolved (instruction_outcome look at operation field) (instruction_outcome more at operation field)
  instruction_stays operation field =
      stays_then is_unresolved (as_form (first_checks operation field >>= λ skeleton. second_checks look (value_of at) skeleton))
      (as_form (first_checks operation field >>= λ skeleton. second_checks more (value_of at) skeleton)) _ _
      (form_stays (first_checks operation field >>= λ skeleton. second_checks look (value_of at) skeleton)
      (first_checks operation field >>= λ skeleton. second_checks more (value_of at) skeleton) (skeleton_stays (first_checks operation field)))
      (λ words. stays_same is_unresolved _)

  pub outcome_stays : (statement : Statement) → Stays is_unresolved (outcome look at statement) (outcome more at statement)
  unfolding outcome
  outcome_stays (Instruction size operation field) = instruction_stays operation field
  outcome_stays (Data texts) =
      stays_then is_unresolved (as_expr (data_values look at at texts)) (as_expr (data_values more at at texts)) _ _
      (expr_stays (data_values look at at texts) (data_values more at at texts) (data_stays at texts)) (λ words. stays_same is_unresolved _)
  outcome_stays (Byte texts) =
      stays_then is_unresolved (as_expr (byte_values look at texts)) (as_expr (byte_values more at texts)) _ _
      (expr_stays (byte_values look at texts) (byte_values more at texts) (bytes_stay texts)) (λ numbers. stays_same is_unresolved _)
  outcome_stays (Def names) = defs_stay names
  outcome_stays (End (Some text)) =
      stays_then is_unresolved (as_expr (entry_in look at text)) (as_expr (entry_in more at text)) _ _
      (expr_stays (entry_in look at text) (entry_in more at text) (entry_stays text)) (λ entry. stays_same is_unresolved _)
  outcome_stays _ = stays_same is_unresolved _
