-- The forms of one operand and of two.
use Rattle.std.proofs.Common.{◌≡◌, ℕ, suc, List, [], ◌∷◌, length, eqb, false, refl, arith}
use Rattle.std.specs.Prelude.{Result, Ok, Err}
use Rattle.std.proofs.lemmas.Bool.Decides.{nat_tests}
use Rattle.source_defs.specs.Refusals.{◌>>=◌}
use Rattle.source_defs.specs.Operands.{operand_texts}
use Rattle.instruction_defs.specs.declared.causes.FormError.{FormError}
use Rattle.instruction_defs.specs.declared.operand_kind.OperandKind.{OperandKind}
use Rattle.instruction_defs.specs.Forms.{Form}
use Rattle.instruction_defs.specs.FirstChecks.{form_in, forms_of, operand_forms}
use Rattle.asm_forms.specs.Forms.{just_one, just_two, both_forms}

longer : (n : ℕ) → eqb (suc (suc n)) 1 ≡ false
longer n = grind (arith, nat_tests)

longer_still : (n : ℕ) → eqb (suc (suc (suc n))) 2 ≡ false
longer_still n = grind (arith, nat_tests)

one_form : (kind : OperandKind) (texts : List (List ℕ))
    → operand_forms (kind ∷ []) texts ≡ (just_one texts >>= λ text. form_in kind text >>= λ form. Ok (form ∷ []))
one_form kind [] = refl
one_form kind (text ∷ []) = refl
one_form kind (first ∷ second ∷ texts) = let no = longer (length texts) in rw no refl

pub one_is_counted : (kind : OperandKind) (field : List ℕ)
    → forms_of (kind ∷ []) field ≡ (just_one (operand_texts field) >>= λ text. form_in kind text >>= λ form. Ok (form ∷ []))
one_is_counted kind field = one_form kind (operand_texts field)

both_are_formed : (first second : Result Form FormError)
    → (first >>= λ form. (second >>= λ next. Ok (next ∷ [])) >>= λ forms. Ok (form ∷ forms))
    ≡ (first >>= λ form. second >>= λ next. Ok (form ∷ next ∷ []))
both_are_formed (Ok form) (Ok next) = refl
both_are_formed (Ok form) (Err cause) = refl
both_are_formed (Err cause) second = refl

two_forms : (kind other : OperandKind) (texts : List (List ℕ))
    → operand_forms (kind ∷ other ∷ []) texts
    ≡ (just_two texts >>= λ pair. form_in kind pair.0 >>= λ first. form_in other pair.1 >>= λ second. Ok (first ∷ second ∷ []))
two_forms kind other [] = refl
two_forms kind other (first ∷ []) = refl
two_forms kind other (first ∷ second ∷ []) = both_are_formed (form_in kind first) (form_in other second)
two_forms kind other (first ∷ second ∷ third ∷ texts) = let no = longer_still (length texts) in rw no refl

pub two_are_counted : (kind other : OperandKind) (field : List ℕ)
    → forms_of (kind ∷ other ∷ []) field
    ≡ (just_two (operand_texts field) >>= λ pair. both_forms kind other pair.0 pair.1)
two_are_counted kind other field = two_forms kind other (operand_texts field)
