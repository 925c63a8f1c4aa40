-- The names of a source and their values.
use Rattle.std.specs.Prelude.{ℕ, ◌+◌, nat_lt, if◌then◌else◌, List, [], ◌∷◌, map, Option}
use Rattle.std.specs.List.{range_with_len}
use Rattle.std.specs.Ordering.{nat_cmp}
use Rattle.std.specs.Cmp.Lexicographic.{slice_cmp}
use Rattle.std.specs.FinMap.{FinMap, from_entries, get}
use Rattle.expression_defs.specs.Expression.{Value, Absolute}

-- names with their values, in the order of their bytes
abbrev pub Names : Type 0
Names = FinMap (slice_cmp nat_cmp) Value

-- R and the number of a register
abbrev pub register_name : ℕ → List ℕ
register_name number = if nat_lt number 10 then 0x52 ∷ (0x30 + number) ∷ [] else 0x52 ∷ 0x31 ∷ (0x26 + number) ∷ []

-- Profile: R0 to R15 stand for 0 to 15 from the start, so a label of that name is a second one.
unfoldable pub registers : List (List ℕ × Value)
registers = map (λ number. (register_name number, Absolute number)) (range_with_len 0 16)

-- the names before the first line
abbrev pub predefined : Names
predefined = from_entries registers

-- what a name stands for
abbrev pub look_up : Names → List ℕ → Option Value
look_up names name = get names name
