-- An instruction whose names are known has the words that it has when more are known.
use Rattle.std.proofs.Common.{◌≡◌, ℕ, List, ◌∷◌, Some, Ok, Err, ap}
use Rattle.std.specs.Prelude.{Option, Result}
use Rattle.expression_defs.specs.declared.causes.ExprError.{ExprError}
use Rattle.expression_defs.specs.Expression.{Value, absolute, expression}
use Rattle.expression_defs.specs.Growing as expressions
use Rattle.expression_defs.proofs.GrowingLaws.{Stays, stays_same, stays_then, expression_stays}
use Rattle.instruction_defs.specs.declared.operand_kind.OperandKind.{OperandKind}
use Rattle.instruction_defs.specs.declared.operand_kind.OperandKind.TheVariants.{General, Register, Count, Immediate, Target, Displacement}
use Rattle.instruction_defs.specs.Operands.{kinds_of}
use Rattle.instruction_defs.specs.Forms.{Form, Plain, Indirect, Increment, Symbolic, Indexed}
use Rattle.instruction_defs.specs.FirstChecks.{Skeleton, Word, Instruction}
use Rattle.instruction_defs.specs.SecondChecks.{as_form_error, text_in, value_of, number_of, placed, valued, all_valued, second_checks}
use Rattle.instruction_defs.specs.Growing.{is_unresolved}

form_stays : {A : Type 0} (first second : Result A ExprError) → Stays expressions.is_unresolved first second → Stays is_unresolved (as_form_error first) (as_form_error second)
form_stays (Ok value) second same closed = ap as_form_error (same closed)
form_stays (Err cause) second same closed = ap as_form_error (same closed)

module _ (look more : List ℕ → Option Value) (grows : (name : List ℕ) (value : Value) → look name ≡ Some value → more name ≡ Some value) (here : Value) where
  value_stays : (text : List ℕ) → Stays is_unresolved (value_of look here text) (value_of more here text)
  value_stays text = form_stays (expression look here text) (expression more here text) (expression_stays look more grows here text)

  number_stays : (text : List ℕ) → Stays is_unresolved (number_of look here text) (number_of more here text)
  number_stays text =
      stays_then is_unresolved (value_of look here text) (value_of more here text) _ _ (value_stays text) (λ value. stays_same is_unresolved (as_form_error (absolute value)))

  placed_stays : (form : Form) → Stays is_unresolved (placed look here form) (placed more here form)
  placed_stays (Plain text) = stays_then is_unresolved (number_of look here text) (number_of more here text) _ _ (number_stays text) (λ number. stays_same is_unresolved _)
  placed_stays (Indirect text) = stays_then is_unresolved (number_of look here text) (number_of more here text) _ _ (number_stays text) (λ number. stays_same is_unresolved _)
  placed_stays (Increment text) = stays_then is_unresolved (number_of look here text) (number_of more here text) _ _ (number_stays text) (λ number. stays_same is_unresolved _)
  placed_stays (Symbolic text) = stays_then is_unresolved (value_of look here text) (value_of more here text) _ _ (value_stays text) (λ value. stays_same is_unresolved _)
  placed_stays (Indexed text index) =
      stays_then is_unresolved (value_of look here text) (value_of more here text) _ _ (value_stays text)
      (λ value. stays_then is_unresolved (number_of look here index) (number_of more here index) _ _ (number_stays index) (λ number. stays_same is_unresolved _))

  valued_stays : (kind : OperandKind) (form : Form) → Stays is_unresolved (valued look here kind form) (valued more here kind form)
  valued_stays General form = placed_stays form
  valued_stays Register form =
      stays_then is_unresolved (number_of look here (text_in form)) (number_of more here (text_in form)) _ _ (number_stays (text_in form)) (λ number. stays_same is_unresolved _)
  valued_stays Count form =
      stays_then is_unresolved (number_of look here (text_in form)) (number_of more here (text_in form)) _ _ (number_stays (text_in form)) (λ number. stays_same is_unresolved _)
  valued_stays Displacement form =
      stays_then is_unresolved (number_of look here (text_in form)) (number_of more here (text_in form)) _ _ (number_stays (text_in form)) (λ number. stays_same is_unresolved _)
  valued_stays Immediate form =
      stays_then is_unresolved (value_of look here (text_in form)) (value_of more here (text_in form)) _ _ (value_stays (text_in form)) (λ value. stays_same is_unresolved _)
  valued_stays Target form =
      stays_then is_unresolved (value_of look here (text_in form)) (value_of more here (text_in form)) _ _ (value_stays (text_in form)) (λ value. stays_same is_unresolved _)

  all_valued_stay : (kinds : List OperandKind) (forms : List Form) → Stays is_unresolved (all_valued look here kinds forms) (all_valued more here kinds forms)
  all_valued_stay (kind ∷ kinds) (form ∷ forms) =
      stays_then is_unresolved (valued look here kind form) (valued more here kind form) _ _ (valued_stays kind form)
      (λ operand.
      stays_then is_unresolved (all_valued look here kinds forms) (all_valued more here kinds forms) _ _ (all_valued_stay kinds forms)
      (λ operands. stays_same is_unresolved _))
  all_valued_stay _ _ = stays_same is_unresolved _

  pub words_stay : (skeleton : Skeleton) → Stays is_unresolved (second_checks look here skeleton) (second_checks more here skeleton)
  unfolding second_checks
  words_stay (Word word) = stays_same is_unresolved _
  words_stay (Instruction operation forms) =
      stays_then is_unresolved (all_valued look here (kinds_of operation) forms) (all_valued more here (kinds_of operation) forms) _ _
      (all_valued_stay (kinds_of operation) forms) (λ operands. stays_same is_unresolved _)
