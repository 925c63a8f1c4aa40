-- The lines of a listing, which are lines of a source.
use Rattle.std.specs.Prelude.{ℕ, List, ◌∷◌, ◌++◌, codes, Option, Some, None}

-- Profile: a line of a listing has no label: its operation comes after seven blanks.
abbrev pub listed : List ℕ → List ℕ
listed text = codes "       " ++ text

-- the line of a listing with its line feed
abbrev pub listing_line : List ℕ → List ℕ
listing_line text = listed (text ++ codes "\n")

-- Editor/Assembler manual, "Source statement format": operands with a comma between.
abbrev pub two_texts : List ℕ → List ℕ → List ℕ
two_texts first second = first ++ (0x2C ∷ second)

-- Editor/Assembler manual, "Source statement format": an operation, and its operands after a blank.
abbrev pub with_operands : List ℕ → Option (List ℕ) → List ℕ
with_operands name None = name
with_operands name (Some operands) = name ++ (0x20 ∷ operands)
