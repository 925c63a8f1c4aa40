-- The operands of a field, by how many an operation takes. Profile: their count is asked before their forms.
use Rattle.std.specs.Prelude.{ℕ, Bool, true, false, not, if◌then◌else◌, List, [], ◌∷◌, Option, Some, None, Result, Ok}
use Rattle.std.specs.Prelude.{Err}
use Rattle.std.specs.List.{list_all}
use Rattle.source_defs.specs.declared.causes.OperandError.{OperandError}
use Rattle.source_defs.specs.declared.causes.OperandError.TheVariants.{Count, Form}
use Rattle.source_defs.specs.Refusals.{◌>>=◌}

abbrev pub is_empty : List ℕ → Bool
is_empty [] = true
is_empty (byte ∷ bytes) = false

-- Profile: an empty operand is refused for its form.
abbrev pub written : List ℕ → Result (List ℕ) OperandError
written [] = Err Form
written (byte ∷ bytes) = Ok (byte ∷ bytes)

abbrev pub one_operand : List (List ℕ) → Result (List ℕ) OperandError
one_operand (text ∷ []) = written text
one_operand _ = Err Count

-- the operand, where there is one
abbrev pub optional_operand : List (List ℕ) → Result (Option (List ℕ)) OperandError
optional_operand [] = Ok None
optional_operand (text ∷ []) = written text >>= λ text. Ok (Some text)
optional_operand _ = Err Count

abbrev pub none_empty : List (List ℕ) → Bool
none_empty texts = list_all (λ text. not (is_empty text)) texts

-- one operand or more
abbrev pub operand_list : List (List ℕ) → Result (List (List ℕ)) OperandError
operand_list [] = Err Count
operand_list (text ∷ texts) = if none_empty (text ∷ texts) then Ok (text ∷ texts) else Err Form
