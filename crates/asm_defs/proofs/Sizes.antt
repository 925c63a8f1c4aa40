-- The second checks of an instruction give as many bytes as the first checks say.
use Rattle.std.proofs.Common.{◌≡◌, ℕ, ◌+◌, ◌*◌, Bool, true, false, List, [], ◌∷◌, Some, None, Ok, Err, length, refl, sym, ap, ◌∙◌, arith, length-append}
use Rattle.std.specs.Prelude.{Option, Result, if◌then◌else◌}
use Rattle.source_defs.specs.Refusals.{◌>>=◌}
use Rattle.expression_defs.specs.Expression.{Value}
use Rattle.std.specs.Int.{w16, cast_signed}
use Rattle.instruction_defs.specs.declared.causes.FormError.TheVariants.{BadOperand}
use Rattle.instruction_defs.specs.declared.operand_kind.OperandKind.{OperandKind}
use Rattle.instruction_defs.specs.declared.operand_kind.OperandKind.TheVariants.{General, Register, Count, Immediate, Target, Displacement}
use Rattle.instruction_defs.specs.Forms.{Form, Plain, Indirect, Increment, Symbolic, Indexed}
use Rattle.instruction_defs.specs.Operands.{kinds_of}
use Rattle.instruction_defs.specs.FirstChecks as first
use Rattle.instruction_defs.specs.FirstChecks.{Skeleton, Word, Instruction, words_after, form_words}
use Rattle.instruction_defs.specs.SecondChecks.{Operand, InRegister, ByRegister, AutoIncrement, AtAddress, AtIndexed, Number, Bit, To, Following, EncodedOperand, Located, Displaced}
use Rattle.instruction_defs.specs.SecondChecks.{value_of, number_of, text_in, as_form_error, target_in, placed, valued, all_valued, ranged, all_ranged, below_sixteen}
use Rattle.instruction_defs.specs.SecondChecks.{displaced, displacement_to, place_number, is_index, is_displacement, following_in, all_following, second_checks}

-- how many words follow for an operand
abbrev operand_words : Operand → ℕ
operand_words (InRegister number) = 0
operand_words (ByRegister number) = 0
operand_words (AutoIncrement number) = 0
operand_words (AtAddress value) = 1
operand_words (AtIndexed value number) = 1
operand_words (Number number) = 0
operand_words (Bit number) = 0
operand_words (To target) = 0
operand_words (Following value) = 1

abbrev all_operand_words : List Operand → ℕ
all_operand_words [] = 0
all_operand_words (operand ∷ operands) = operand_words operand + all_operand_words operands

abbrev ready_words : EncodedOperand → ℕ
ready_words ready = length (following_in ready)

abbrev pub value_or : {B E : Type 0} → B → Result B E → B
value_or other (Ok value) = value
value_or other (Err error) = other

-- what an answer counts, where each value that it may be made of counts so
pub given : {A B E : Type 0} (count : B → ℕ) (n : ℕ) (answer : Result A E) (make : A → Result B E) (made : B)
    → (answer >>= make) ≡ Ok made → ((value : A) → answer ≡ Ok value → make value ≡ Ok made → count made ≡ n) → count made ≡ n
given count n (Ok value) make made e each = each value refl e
given count n (Err error) make made e each = cc e

abbrev pub same_answer : {B E : Type 0} → Result B E → Result B E → Type 0
same_answer a b = a ≡ b

pub is_ok : {B E : Type 0} (count : B → ℕ) (n : ℕ) (value made : B) → same_answer {B = B} {E = E} (Ok value) (Ok made) → count value ≡ n → count made ≡ n
is_ok count n value made e counts = sym (ap (λ answer. count (value_or value answer)) e) ∙ counts

module _ (look : List ℕ → Option Value) (here : Value) where
  placed_words : (form : Form) (made : Operand) → placed look here form ≡ Ok made → operand_words made ≡ form_words form
  placed_words (Plain text) made e = given operand_words 0 (number_of look here text) _ made e (λ value is f. is_ok operand_words 0 _ made f refl)
  placed_words (Indirect text) made e = given operand_words 0 (number_of look here text) _ made e (λ value is f. is_ok operand_words 0 _ made f refl)
  placed_words (Increment text) made e = given operand_words 0 (number_of look here text) _ made e (λ value is f. is_ok operand_words 0 _ made f refl)
  placed_words (Symbolic text) made e = given operand_words 1 (value_of look here text) _ made e (λ value is f. is_ok operand_words 1 _ made f refl)
  placed_words (Indexed text index) made e =
      given operand_words 1 (value_of look here text) _ made e
      (λ value is f. given operand_words 1 (number_of look here index) _ made f (λ register was g. is_ok operand_words 1 _ made g refl))

  valued_words : (kind : OperandKind) (form : Form) (made : Operand) → valued look here kind form ≡ Ok made → operand_words made ≡ words_after kind form
  valued_words General form made e = placed_words form made e
  valued_words Register form made e = given operand_words 0 (number_of look here (text_in form)) _ made e (λ value is f. is_ok operand_words 0 _ made f refl)
  valued_words Count form made e = given operand_words 0 (number_of look here (text_in form)) _ made e (λ value is f. is_ok operand_words 0 _ made f refl)
  valued_words Displacement form made e = given operand_words 0 (number_of look here (text_in form)) _ made e (λ value is f. is_ok operand_words 0 _ made f refl)
  valued_words Immediate form made e = given operand_words 1 (value_of look here (text_in form)) _ made e (λ value is f. is_ok operand_words 1 _ made f refl)
  valued_words Target form made e =
      given operand_words 0 (value_of look here (text_in form)) _ made e
      (λ value is f. given operand_words 0 (as_form_error (target_in here value)) _ made f (λ target was g. is_ok operand_words 0 _ made g refl))

  all_valued_words : (kinds : List OperandKind) (forms : List Form) (made : List Operand) → all_valued look here kinds forms ≡ Ok made
      → all_operand_words made ≡ first.all_words_after kinds forms
  all_valued_words [] forms made e = is_ok all_operand_words 0 _ made e refl
  all_valued_words (kind ∷ kinds) [] made e = is_ok all_operand_words 0 _ made e refl
  all_valued_words (kind ∷ kinds) (form ∷ forms) made e =
      given all_operand_words (words_after kind form + first.all_words_after kinds forms) (valued look here kind form) _ made e
      (λ operand is f.
      given all_operand_words (words_after kind form + first.all_words_after kinds forms) (all_valued look here kinds forms) _ made f
      (λ operands are g.
      is_ok all_operand_words (words_after kind form + first.all_words_after kinds forms) (operand ∷ operands) made g
      (omega (arith, valued_words kind form operand is, all_valued_words kinds forms operands are))))

  displaced_words : (disp : Option _) (made : EncodedOperand) → displaced disp ≡ Ok made → ready_words made ≡ 0
  displaced_words (Some disp) made e = is_ok ready_words 0 _ made e refl
  displaced_words None made e = cc e

  indexed_words : (b : Bool) (value : Value) (number : ℕ) (made : EncodedOperand)
      → (if b then Ok (Located (record { mode = 2; reg = number }) (Some value)) else Err BadOperand) ≡ Ok made → ready_words made ≡ 1
  indexed_words true value number made e = is_ok ready_words 1 _ made e refl
  indexed_words false value number made e = cc e

  bit_words : (b : Bool) (number : ℕ) (made : EncodedOperand)
      → (if b then Ok (Displaced (cast_signed w16 number)) else Err BadOperand) ≡ Ok made → ready_words made ≡ 0
  bit_words true number made e = is_ok ready_words 0 _ made e refl
  bit_words false number made e = cc e

  ranged_words : (operand : Operand) (made : EncodedOperand) → ranged here operand ≡ Ok made → ready_words made ≡ operand_words operand
  ranged_words (InRegister number) made e = given ready_words 0 (below_sixteen number) _ made e (λ value is f. is_ok ready_words 0 _ made f refl)
  ranged_words (ByRegister number) made e = given ready_words 0 (below_sixteen number) _ made e (λ value is f. is_ok ready_words 0 _ made f refl)
  ranged_words (AutoIncrement number) made e = given ready_words 0 (below_sixteen number) _ made e (λ value is f. is_ok ready_words 0 _ made f refl)
  ranged_words (AtAddress value) made e = is_ok ready_words 1 _ made e refl
  ranged_words (AtIndexed value number) made e = indexed_words (is_index number) value number made e
  ranged_words (Number number) made e = given ready_words 0 (below_sixteen number) _ made e (λ value is f. is_ok ready_words 0 _ made f refl)
  ranged_words (Bit number) made e = bit_words (is_displacement number) number made e
  ranged_words (To target) made e = displaced_words (displacement_to (place_number here + 2) target) made e
  ranged_words (Following value) made e = is_ok ready_words 1 _ made e refl

  abbrev all_ready_words : List EncodedOperand → ℕ
  all_ready_words readies = length (all_following readies)

  all_ranged_words : (operands : List Operand) (made : List EncodedOperand) → all_ranged here operands ≡ Ok made → all_ready_words made ≡ all_operand_words operands
  all_ranged_words [] made e = is_ok all_ready_words 0 _ made e refl
  all_ranged_words (operand ∷ operands) made e =
      given all_ready_words (operand_words operand + all_operand_words operands) (ranged here operand) _ made e
      (λ ready is f.
      given all_ready_words (operand_words operand + all_operand_words operands) (all_ranged here operands) _ made f
      (λ readies are g.
      is_ok all_ready_words (operand_words operand + all_operand_words operands) (ready ∷ readies) made g
      (omega (arith, length-append (following_in ready) (all_following readies), ranged_words operand ready is, all_ranged_words operands readies are))))

  abbrev bytes_of : List Value → ℕ
  bytes_of words = 2 * length words

  -- the words of a line have the size that the first checks find
  pub words_fill : (skeleton : Skeleton) (words : List Value) → second_checks look here skeleton ≡ Ok words → 2 * length words ≡ first.size_of skeleton
  unfolding second_checks
  words_fill (Word word) words e = is_ok bytes_of 2 _ words e refl
  words_fill (Instruction operation forms) words e =
      given bytes_of (first.size_of (Instruction operation forms)) (all_valued look here (kinds_of operation) forms) _ words e
      (λ operands are f.
      given bytes_of (first.size_of (Instruction operation forms)) (all_ranged here operands) _ words f
      (λ readies stand g.
      is_ok bytes_of (first.size_of (Instruction operation forms)) _ words g
      (omega (arith, all_valued_words (kinds_of operation) forms operands are, all_ranged_words operands readies stand))))
