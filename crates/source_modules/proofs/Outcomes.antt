-- The outcome of a line by the second checks has values of 16 bits, and bytes.
use Rattle.std.proofs.Common.{◌≡◌, ℕ, ◌%◌, Bool, true, false, List, [], ◌∷◌, Some, Ok, Err, refl, arith}
use Rattle.std.specs.Prelude.{Option, Result, IfOk, ⊤, nat_le, if◌then◌else◌}
use Rattle.std.proofs.lemmas.Bool.Decides.{nat_tests}
use Rattle.source_defs.specs.Refusals.{◌>>=◌}
use Rattle.expression_defs.specs.declared.causes.ExprError.{ExprError}
use Rattle.expression_defs.specs.declared.causes.ExprError.TheVariants.{BadRelocation}
use Rattle.expression_defs.specs.Expression.{Value, Absolute, Relocatable, External, to_word, known_value}
use Rattle.object_defs.specs.Laws.{FitsSpot}
use Rattle.instruction_defs.specs.declared.causes.FormError.{FormError}
use Rattle.instruction_defs.specs.FirstChecks.{first_checks}
use Rattle.instruction_defs.specs.SecondChecks.{second_checks}
use Rattle.asm_defs.specs.declared.causes.AsmCause.{AsmCause}
use Rattle.asm_defs.specs.declared.location.Location.{Location}
use Rattle.asm_defs.specs.declared.location.Part.{Part}
use Rattle.asm_defs.specs.declared.location.Part.TheVariants as part
use Rattle.asm_defs.specs.Statements.{Statement, Instruction, Aorg, Rorg, Dorg, Equ, Data, Byte, Text, Def, End, as_form}
use Rattle.asm_defs.specs.Locations.{after, value_of, value_by}
use Rattle.asm_defs.specs.FirstChecks.{as_expr}
use Rattle.asm_defs.specs.SecondChecks as second
use Rattle.asm_defs.specs.SecondChecks.{Outcome, Words, Bytes, Entry, checked_byte, checked_bytes, used_at, is_first_by, entry_at, defined_here, value}
use Rattle.asm_defs.specs.SecondChecks.{word_in, data_values, absolute_in, byte_values}
use Rattle.asm_defs.specs.SecondChecks.{defs_known, entry_in, outcome}
use Rattle.source_modules.proofs.Answers.{ok_then, any}
use Rattle.source_modules.proofs.Bytes.{IsByte, AreBytes, AllBytes, characters_bytes}
use Rattle.source_modules.proofs.Values.{FitsValue, FitsLook, expression_fits}
use Rattle.source_modules.proofs.Instructions.{FitsValues, words_fit}

-- the texts of a statement's operands are of bytes
abbrev pub HasBytes : Statement → Type 0
HasBytes (Instruction size operation field) = AreBytes field
HasBytes (Aorg text) = AreBytes text
HasBytes (Rorg (Some text)) = AreBytes text
HasBytes (Dorg text) = AreBytes text
HasBytes (Equ text) = AreBytes text
HasBytes (Data texts) = AllBytes texts
HasBytes (Byte texts) = AllBytes texts
HasBytes (Text quoted) = AreBytes quoted
HasBytes (End (Some text)) = AreBytes text
HasBytes _ = ⊤

abbrev pub FitsOutcome : Outcome → Type 0
FitsOutcome (Words words) = FitsValues words
FitsOutcome (Bytes bytes) = AreBytes bytes
FitsOutcome (Entry spot) = FitsSpot spot
FitsOutcome second.Nothing = ⊤

by_part : (at : Part) (number : ℕ) → FitsValue (value_by at (to_word number))
by_part part.Relocatable number = omega arith
by_part part.Absolute number = omega arith
by_part part.Dummy number = omega arith

pub place_value : (at : Location) → FitsValue (value_of at)
place_value at = by_part at.part at.number

pub expr_fits : {A : Type 0} (P : A → Type 0) (answer : Result A ExprError) → IfOk answer P → IfOk (as_expr answer) P
expr_fits P (Ok value) has = has
expr_fits P (Err cause) has = tt

form_fits : {A : Type 0} (P : A → Type 0) (answer : Result A FormError) → IfOk answer P → IfOk (as_form answer) P
form_fits P (Ok value) has = has
form_fits P (Err cause) has = tt

used_by : (b : Bool) (name : List ℕ) → IfOk (if b then Err BadRelocation else Ok (External name)) FitsValue
used_by true name = tt
used_by false name = tt

used_fits : (at : Location) (value : Value) → FitsValue value → IfOk (used_at at value) FitsValue
used_fits at (Absolute number) fits = fits
used_fits at (Relocatable number) fits = fits
used_fits at (External name) fits = used_by (is_first_by at.part at.number) name

entry_fits : (value : Value) → FitsValue value → IfOk (entry_at value) FitsSpot
entry_fits (Absolute number) fits = fits
entry_fits (Relocatable number) fits = fits
entry_fits (External name) fits = tt

byte_by : (small negative : Bool) (number : ℕ) (cause : AsmCause) → nat_le number 0xFF ≡ small
    → IfOk (if small then Ok number else if negative then Ok (number % 256) else Err cause) IsByte
byte_by true negative number cause e = grind (arith, nat_tests, e)
byte_by false true number cause e = omega arith
byte_by false false number cause e = tt

byte_fits : (number : ℕ) → IfOk (checked_byte number) IsByte
byte_fits number = byte_by (nat_le number 0xFF) (nat_le 0xFF80 number) number _ refl

bytes_fit : (numbers : List ℕ) → IfOk (checked_bytes numbers) AreBytes
bytes_fit [] = tt
bytes_fit (number ∷ numbers) =
    ok_then IsByte AreBytes (checked_byte number) _ (byte_fits number)
    (λ byte fits. ok_then AreBytes AreBytes (checked_bytes numbers) _ (bytes_fit numbers) (λ bytes are. (fits, are)))

module _ (look : List ℕ → Option Value) (known : FitsLook look) (at : Location) where
  value_fits : (text : List ℕ) → AreBytes text → IfOk (value look at text) FitsValue
  value_fits text are = expression_fits look (value_of at) text known (place_value at) are

  word_fits : (place : Location) (text : List ℕ) → AreBytes text → IfOk (word_in look at place text) FitsValue
  word_fits place text are = ok_then FitsValue FitsValue (value look at text) _ (value_fits text are) (λ value fits. used_fits place value fits)

  data_fit : (texts : List (List ℕ)) (place : Location) → AllBytes texts → IfOk (data_values look at place texts) FitsValues
  data_fit [] place are = tt
  data_fit (text ∷ texts) place are =
      ok_then FitsValue FitsValues (word_in look at place text) _ (word_fits place text are.0)
      (λ first fits. ok_then FitsValues FitsValues (data_values look at (after place 2) texts) _
      (data_fit texts (after place 2) are.1) (λ others all. (fits, all)))

  entry_is : (text : List ℕ) → AreBytes text → IfOk (entry_in look at text) FitsSpot
  entry_is text are = ok_then FitsValue FitsSpot (value look at text) _ (value_fits text are) (λ value fits. entry_fits value fits)

  defs_fit : (names : List (List ℕ)) → IfOk (defs_known look at names) FitsOutcome
  defs_fit [] = tt
  defs_fit (name ∷ names) =
      ok_then (λ value. ⊤) FitsOutcome (as_expr (known_value (look name))) _ (any (as_expr (known_value (look name))))
      (λ value some. ok_then (λ value. ⊤) FitsOutcome (defined_here value) _ (any (defined_here value)) (λ value kept. defs_fit names))

  pub outcome_fits : (statement : Statement) → HasBytes statement → IfOk (outcome look at statement) FitsOutcome
  unfolding outcome
  outcome_fits (Instruction size operation field) are =
      ok_then FitsValues FitsOutcome (as_form (first_checks operation field >>= λ skeleton. second_checks look (value_of at) skeleton)) _
      (form_fits FitsValues (first_checks operation field >>= λ skeleton. second_checks look (value_of at) skeleton)
      (words_fit look (value_of at) known (place_value at) operation field are))
      (λ words fit. fit)
  outcome_fits (Data texts) are =
      ok_then FitsValues FitsOutcome (as_expr (data_values look at at texts)) _
      (expr_fits FitsValues (data_values look at at texts) (data_fit texts at are)) (λ words fit. fit)
  outcome_fits (Byte texts) are =
      ok_then (λ numbers. ⊤) FitsOutcome (as_expr (byte_values look at texts)) _ (any (as_expr (byte_values look at texts)))
      (λ numbers some. ok_then AreBytes FitsOutcome (checked_bytes numbers) _ (bytes_fit numbers) (λ bytes fit. fit))
  outcome_fits (Text quoted) are = characters_bytes quoted are
  outcome_fits (Def names) are = defs_fit names
  outcome_fits (End (Some text)) are =
      ok_then FitsSpot FitsOutcome (as_expr (entry_in look at text)) _ (expr_fits FitsSpot (entry_in look at text) (entry_is text are)) (λ spot fits. fits)
  outcome_fits _ are = tt
