-- Rows below a line, and what is in a row.
use Rattle.std.proofs.Common.{◌≡◌, ℕ, zero, suc, ◌<◌, ◌≤◌, true, List, [], ◌∷◌, length, take, drop, refl, ap, arith}
use Rattle.std.proofs.lemmas.Bool.Decides.{nat_tests}
use Rattle.std.proofs.lemmas.List.{length-drop}
use Rattle.asm_defs.specs.declared.location.Location.{Location}
use Rattle.shelf_defs.specs.Files.{is_file_name}
use Rattle.shelf_defs.specs.Copied.{PlacedLine}
use Rattle.asm_list_defs.specs.Rows.{first_row, row_below, rows_below, rows_of, eight_on}
use Rattle.asm_list.specs.Adding.{below}

pub short_name : (name : List ℕ) → is_file_name name ≡ true → length name ≤ 60
short_name name is = grind (arith, nat_tests, is)

-- rows are made as long as text is left
rows_enough : (count more : ℕ) (at : Location) (text : List ℕ) → length text ≤ count → length text ≤ more → rows_below count at text ≡ rows_below more at text
rows_enough zero zero at text le le' = refl
rows_enough zero (suc more) at [] le le' = refl
rows_enough zero (suc more) at (byte ∷ text) le le' = absurd (omega (arith, le))
rows_enough (suc count) zero at [] le le' = refl
rows_enough (suc count) zero at (byte ∷ text) le le' = absurd (omega (arith, le'))
rows_enough (suc count) (suc more) at [] le le' = refl
rows_enough (suc count) (suc more) at (byte ∷ text) le le' =
    let left = length-drop 24 (byte ∷ text) in
    ap (λ rows. row_below at (take 24 (byte ∷ text)) ∷ rows)
    (rows_enough count more (eight_on at) (drop 24 (byte ∷ text)) (omega (arith, le, left)) (omega (arith, le', left)))

-- the first of them, and the others
pub one_row : (at : Location) (text : List ℕ) → 0 < length text → below at text ≡ row_below at (take 24 text) ∷ below (eight_on at) (drop 24 text)
one_row at [] some = absurd (omega (arith, some))
one_row at (byte ∷ text) some =
    let left = length-drop 24 (byte ∷ text) in
    ap (λ rows. row_below at (take 24 (byte ∷ text)) ∷ rows)
    (rows_enough (length text) (length (drop 24 (byte ∷ text))) (eight_on at) (drop 24 (byte ∷ text)) (omega (arith, left)) (omega arith))

-- those after the first row of a line
pub rows_are : (at : Location) (text : List ℕ) → rows_below (length text) at (drop 24 text) ≡ below at (drop 24 text)
rows_are at text = let left = length-drop 24 text in rows_enough (length text) (length (drop 24 text)) at (drop 24 text) (omega (arith, left)) (omega arith)

pub less : (text : List ℕ) → 0 < length text → length (drop 24 text) < length text
less text some = let left = length-drop 24 text in omega (arith, some, left)

pub line_by : (line : PlacedLine) (at : Location) (text : List ℕ) → rows_of line at text ≡ first_row line at (take 24 text) ∷ below (eight_on at) (drop 24 text)
line_by line at text = ap (λ rows. first_row line at (take 24 text) ∷ rows) (rows_are (eight_on at) text)
