-- The locations of a module.
use Rattle.std.specs.Prelude.{ℕ, ◌+◌, ◌%◌, Bool, nat_le, max, List, [], ◌∷◌}
use Rattle.expression_defs.specs.Expression.{Value, Absolute, Relocatable, to_word}
use Rattle.expression_defs.specs.Layout as layout
use Rattle.expression_defs.specs.Layout.{LayoutLine}
use Rattle.asm_defs.specs.declared.location.Part.{Part}
use Rattle.asm_defs.specs.declared.location.Part.TheVariants as part
use Rattle.asm_defs.specs.declared.location.Location.{Location}
use Rattle.asm_defs.specs.Statements.{Statement}

-- a line of a module
abbrev pub Line : Type 0
Line = LayoutLine Location Statement

-- Editor/Assembler manual, "Relocatability": a source starts at relocatable 0.
abbrev pub start : Location
start = record { part = part.Relocatable; number = 0 }

abbrev pub after : Location → ℕ → Location
after location bytes = record { part = location.part; number = location.number + bytes }

abbrev pub location : List Line → Location
location before = layout.location start after before

abbrev pub place : List Line → Line → Location
place before line = layout.place start after before line

-- the value of a number in a part
abbrev pub value_by : Part → ℕ → Value
value_by part.Relocatable number = Relocatable number
value_by _ number = Absolute number

-- What a label stands for that has a location. Profile: one after the last place is 0.
abbrev pub value_of : Location → Value
value_of location = value_by location.part (to_word location.number)

-- how many bytes are left free before an even place
abbrev pub to_even : Location → ℕ
to_even location = location.number % 2

-- Profile: the last location of relocatable code is 65,535, and of other code 65,536.
abbrev pub limit : Part → ℕ
limit part.Relocatable = 65535
limit _ = 65536

abbrev pub is_in_part : Location → Bool
is_in_part location = nat_le location.number (limit location.part)

-- a relocatable location, or 0
abbrev pub relocatable_by : Part → ℕ → ℕ
relocatable_by part.Relocatable number = number
relocatable_by _ number = 0

abbrev pub relocatable : Location → ℕ
relocatable location = relocatable_by location.part location.number

-- Editor/Assembler manual, "Relocatable Origin": the highest relocatable location that was reached.
-- Profile: one that RORG alone sets counts.
abbrev pub reached : List Line → ℕ
reached [] = 0
reached (line ∷ before) = max (reached before) (relocatable (location (line ∷ before)))
