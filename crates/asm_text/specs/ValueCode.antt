-- How a value is stored in a proof.
use Rattle.std.specs.Prelude.{◌≡◌, ℕ, zero, suc, List, [], refl}
use Rattle.std.specs.Coded.{Coded, code_by, coded×, coded_list, coded_ℕ}
use Rattle.expression_defs.specs.Expression.{Value, Absolute, Relocatable, External}

-- a value as a number for its kind, its number and its name
abbrev pub value_parts : Value → ℕ × (ℕ × List ℕ)
value_parts (Absolute number) = (0, (number, []))
value_parts (Relocatable place) = (1, (place, []))
value_parts (External name) = (2, (0, name))

abbrev pub value_of_parts : ℕ × (ℕ × List ℕ) → Value
value_of_parts (zero, (number, name)) = Absolute number
value_of_parts (suc zero, (place, name)) = Relocatable place
value_of_parts (suc (suc kind), (place, name)) = External name

abbrev pub value_back : (value : Value) → value_of_parts (value_parts value) ≡ value
value_back (Absolute number) = refl
value_back (Relocatable place) = refl
value_back (External name) = refl

abbrev pub value_code : Coded Value
value_code =
    code_by (ℕ × (ℕ × List ℕ)) (coded× coded_ℕ (coded× coded_ℕ (coded_list coded_ℕ)))
    value_parts value_of_parts value_back
