-- Lists of values, one value after the other.
use Rattle.std.proofs.Common.{◌≡◌, ℕ, List, [], ◌∷◌, ◌++◌, Ok, Err, refl, sym, ap, append_assoc}
use Rattle.std.specs.Prelude.{Option, Result}
use Rattle.expression_defs.specs.declared.causes.ExprError.{ExprError}
use Rattle.source_defs.specs.Refusals.{prepended, ◌>>=◌}
use Rattle.expression_defs.specs.Expression.{Value}
use Rattle.asm_defs.specs.declared.location.Location.{Location}
use Rattle.asm_defs.specs.Locations.{after}
use Rattle.asm_defs.specs.SecondChecks.{word_in, data_values, absolute_in, byte_values}

pub after_more : {A E : Type 0} (front : List A) (item : A) (others : Result (List A) E)
    → prepended front (others >>= λ items. Ok (item ∷ items)) ≡ prepended (front ++ item ∷ []) others
after_more front item (Ok items) = ap Ok (sym (append_assoc front (item ∷ []) items))
after_more front item (Err error) = refl

module _ (look : List ℕ → Option Value) (at : Location) where
  pub byte_more : (front : List ℕ) (text : List ℕ) (texts : List (List ℕ)) (number : ℕ) → absolute_in look at text ≡ Ok number
      → prepended front (byte_values look at (text ∷ texts)) ≡ prepended (front ++ number ∷ []) (byte_values look at texts)
  byte_more front text texts number e = rw e (after_more front number (byte_values look at texts))

  pub byte_error : (front : List ℕ) (text : List ℕ) (texts : List (List ℕ)) (cause : ExprError) → absolute_in look at text ≡ Err cause
      → prepended front (byte_values look at (text ∷ texts)) ≡ Err cause
  byte_error front text texts cause e = rw e refl

  pub data_more : (place : Location) (front : List Value) (text : List ℕ) (texts : List (List ℕ)) (word : Value) → word_in look at place text ≡ Ok word
      → prepended front (data_values look at place (text ∷ texts)) ≡ prepended (front ++ word ∷ []) (data_values look at (after place 2) texts)
  data_more place front text texts word e = rw e (after_more front word (data_values look at (after place 2) texts))

  pub data_error : (place : Location) (front : List Value) (text : List ℕ) (texts : List (List ℕ)) (cause : ExprError) → word_in look at place text ≡ Err cause
      → prepended front (data_values look at place (text ∷ texts)) ≡ Err cause
  data_error place front text texts cause e = rw e refl
