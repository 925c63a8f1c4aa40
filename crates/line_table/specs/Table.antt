-- What the rows of the table are made of.
use Rattle.std.specs.Prelude.{ℕ, List, [], ◌∷◌, take, map}
use Rattle.expression_defs.specs.Expression.{Value, Absolute}
use Rattle.line_table.specs.declared.line_row.LineRow.{LineRow}
use Rattle.line_table.specs.declared.names.TheConstants.{NAMES}

-- as the code keeps them: the place, the count and the words
abbrev pub Row : Type 0
Row = ℕ × ℕ × List ℕ

-- no row
abbrev pub nothing : Row
nothing = (0, 0, 0 ∷ 0 ∷ 0 ∷ [])

-- the names with what they stand for
abbrev pub defined : List (List ℕ × Value)
defined = map (λ name. (name.0.now, Absolute name.1)) NAMES

-- the words of a row
abbrev pub row_words : LineRow → List ℕ
row_words row = take row.count row.words
