-- The names that `Symbols` keeps.
use Rattle.std.specs.Prelude.{ℕ, Bool, false, ◌==◌, List, [], ◌∷◌, ◌++◌, map}
use Rattle.std.specs.FinMap.{from_entries}
use Rattle.expression_defs.specs.Symbols.{Names, registers}
use Rattle.asm_text.specs.declared.expressions.values.Value.{Value}
use Rattle.asm_text.specs.GivenValues.{model_of_value}

-- an entry, with its value seen as the definitions see it
abbrev pub model_of_entry : List ℕ × Value → List ℕ × Rattle.expression_defs.specs.Expression.Value
model_of_entry entry = (entry.0, model_of_value entry.1)

-- the registers and the entries
abbrev pub names_of : List (List ℕ × Value) → Names
names_of entries = from_entries (registers ++ map model_of_entry entries)

-- a name begins with the letter of the registers
abbrev pub begins_as_register : List ℕ → Bool
begins_as_register [] = false
begins_as_register (first ∷ name) = first == 0x52
