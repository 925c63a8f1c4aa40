-- The outcome of a line fills the size that the line says.
use Rattle.std.proofs.Common.{◌≡◌, ℕ, ◌*◌, List, [], ◌∷◌, Some, Ok, Err, length, refl, ◌∙◌, arith}
use Rattle.std.specs.Prelude.{Option, Result, ⊤}
use Rattle.source_defs.specs.Refusals.{◌>>=◌}
use Rattle.expression_defs.specs.declared.causes.ExprError.{ExprError}
use Rattle.expression_defs.specs.Expression.{Value, characters, known_value}
use Rattle.instruction_defs.specs.declared.causes.FormError.{FormError}
use Rattle.instruction_defs.specs.FirstChecks.{Skeleton, first_checks, line_size, size_of}
use Rattle.instruction_defs.specs.SecondChecks.{second_checks}
use Rattle.asm_defs.specs.declared.location.Location.{Location}
use Rattle.asm_defs.specs.Statements.{Statement, Instruction, Data, Byte, Text, Def, End, as_form}
use Rattle.asm_defs.specs.Locations.{after, value_of}
use Rattle.asm_defs.specs.FirstChecks.{as_expr}
use Rattle.asm_defs.specs.SecondChecks.{Outcome, Nothing, Words, Bytes, Entry, checked_byte, checked_bytes, word_in, data_values, absolute_in, byte_values, defs_known}
use Rattle.asm_defs.specs.SecondChecks.{defined_here, entry_in, outcome}
use Rattle.asm_defs.specs.Memory.{bytes_in}
use Rattle.asm_defs.specs.Growing.{declared_size}
use Rattle.asm_defs.proofs.Sizes.{given, is_ok, words_fill}

-- an instruction has the size that the first checks find
abbrev pub IsSized : Statement → Type 0
IsSized (Instruction size operation field) = line_size operation field ≡ Ok size
IsSized _ = ⊤

form_is : {A : Type 0} (answer : Result A FormError) (value : A) → as_form answer ≡ Ok value → answer ≡ Ok value
form_is (Ok other) value e = cc e
form_is (Err error) value e = cc e

expr_is : {A : Type 0} (answer : Result A ExprError) (value : A) → as_expr answer ≡ Ok value → answer ≡ Ok value
expr_is (Ok other) value e = cc e
expr_is (Err error) value e = cc e

module _ (look : List ℕ → Option Value) (at : Location) where
  instruction_size : (skeleton : Result Skeleton FormError) (words : List Value) (size : ℕ)
      → (skeleton >>= λ skeleton. second_checks look (value_of at) skeleton) ≡ Ok words
      → (skeleton >>= λ skeleton. Ok (size_of skeleton)) ≡ Ok size → 2 * length words ≡ size
  instruction_size (Ok skeleton) words size e sized =
      let same : size_of skeleton ≡ size = cc sized in
      words_fill look (value_of at) skeleton words e ∙ same
  instruction_size (Err error) words size e sized = cc e

  data_size : (place : Location) (texts : List (List ℕ)) (words : List Value) → data_values look at place texts ≡ Ok words → length words ≡ length texts
  data_size place [] words e = is_ok length 0 _ words e refl
  data_size place (text ∷ texts) words e =
      given length (length (text ∷ texts)) (word_in look at place text) _ words e
      (λ word is f.
      given length (length (text ∷ texts)) (data_values look at (after place 2) texts) _ words f
      (λ others are g. is_ok length (length (text ∷ texts)) (word ∷ others) words g (omega (arith, data_size (after place 2) texts others are))))

  values_size : (texts : List (List ℕ)) (numbers : List ℕ) → byte_values look at texts ≡ Ok numbers → length numbers ≡ length texts
  values_size [] numbers e = is_ok length 0 _ numbers e refl
  values_size (text ∷ texts) numbers e =
      given length (length (text ∷ texts)) (absolute_in look at text) _ numbers e
      (λ number is f.
      given length (length (text ∷ texts)) (byte_values look at texts) _ numbers f
      (λ others are g. is_ok length (length (text ∷ texts)) (number ∷ others) numbers g (omega (arith, values_size texts others are))))

  bytes_size : (numbers bytes : List ℕ) → checked_bytes numbers ≡ Ok bytes → length bytes ≡ length numbers
  bytes_size [] bytes e = is_ok length 0 _ bytes e refl
  bytes_size (number ∷ numbers) bytes e =
      given length (length (number ∷ numbers)) (checked_byte number) _ bytes e
      (λ byte is f.
      given length (length (number ∷ numbers)) (checked_bytes numbers) _ bytes f
      (λ others are g. is_ok length (length (number ∷ numbers)) (byte ∷ others) bytes g (omega (arith, bytes_size numbers others are))))

  defs_size : (names : List (List ℕ)) (found : Outcome) → defs_known look at names ≡ Ok found → bytes_in found ≡ 0
  defs_size [] found e = is_ok bytes_in 0 Nothing found e refl
  defs_size (name ∷ names) found e =
      given bytes_in 0 (as_expr (known_value (look name))) _ found e
      (λ value is f. given bytes_in 0 (defined_here value) _ found f (λ kept was g. defs_size names found g))

  pub outcome_size : (statement : Statement) (found : Outcome) → IsSized statement → outcome look at statement ≡ Ok found → bytes_in found ≡ declared_size statement
  unfolding outcome
  outcome_size (Instruction size operation field) found sized e =
      given bytes_in size (as_form (first_checks operation field >>= λ skeleton. second_checks look (value_of at) skeleton)) _ found e
      (λ words is f. is_ok bytes_in size (Words words) found f
      (instruction_size (first_checks operation field) words size (form_is _ words is) sized))
  outcome_size (Data texts) found sized e =
      given bytes_in (2 * length texts) (as_expr (data_values look at at texts)) _ found e
      (λ words is f. is_ok bytes_in (2 * length texts) (Words words) found f (omega (arith, data_size at texts words (expr_is _ words is))))
  outcome_size (Byte texts) found sized e =
      given bytes_in (length texts) (as_expr (byte_values look at texts)) _ found e
      (λ numbers is f.
      given bytes_in (length texts) (checked_bytes numbers) _ found f
      (λ bytes are g. is_ok bytes_in (length texts) (Bytes bytes) found g
      (bytes_size numbers bytes are ∙ values_size texts numbers (expr_is _ numbers is))))
  outcome_size (Text quoted) found sized e = is_ok bytes_in (length (characters quoted)) (Bytes (characters quoted)) found e refl
  outcome_size (Def names) found sized e = defs_size names found e
  outcome_size (End (Some text)) found sized e =
      given bytes_in 0 (as_expr (entry_in look at text)) _ found e (λ entry is f. is_ok bytes_in 0 (Entry entry) found f refl)
  outcome_size _ found sized e = is_ok bytes_in 0 Nothing found e refl
