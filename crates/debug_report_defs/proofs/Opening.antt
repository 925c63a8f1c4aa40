-- Texts that the changes of a line may begin with.
use Rattle.std.proofs.Common.{◌≡◌, ℕ, Bool, true, false, not, cond, nat_eq, ◌&&◌, List, [], ◌∷◌, ◌++◌, sym, ap, ◌∙◌}
use Rattle.std.proofs.Common.{subst, append_assoc, arith}
use Rattle.std.specs.Prelude.{codes}
use Rattle.std.specs.List.{list_all}
use Rattle.std.proofs.lemmas.Bool.Decides.{nat_tests}
use Rattle.listed_lines.proofs.Scans.{all_both, all_also}
use Rattle.change_defs.specs.Changes.{Change}
use Rattle.change_defs.specs.Text.{repeated_text, placed_change}
use Rattle.debug_report_defs.specs.MachineReader.{begins_piece}
use Rattle.debug_report_defs.proofs.LineSplit.{in_word, Begins, begins_name}

-- a byte that begins no piece
abbrev pub plain : ℕ → Bool
plain byte = not (begins_piece byte)

pub all_plain : (xs ys : List ℕ) → list_all plain xs ≡ true → list_all plain ys ≡ true → list_all plain (xs ++ ys) ≡ true
all_plain = all_both plain

is_in_word : (name : List ℕ) → list_all plain name ≡ true → list_all in_word name ≡ true
is_in_word = all_also plain in_word (λ byte p. grind (arith, nat_tests))

-- what it begins, if the changes of a line begin after it
abbrev pub Opens : List ℕ → Type 0
Opens text = (rest : List ℕ) → Begins rest → Begins (text ++ rest)

pub opens_then : (t u : List ℕ) → Opens t → Opens u → Opens (t ++ u)
opens_then t u first second rest b = subst Begins (sym (append_assoc t u rest)) (first (u ++ rest) (second rest b))

pub opens_name : (name value : List ℕ) → list_all plain name ≡ true → Opens (0x20 ∷ (name ++ 0x3D ∷ value))
opens_name name value e rest b =
    subst (λ l. Begins (0x20 ∷ l)) (sym (append_assoc name (0x3D ∷ value) rest)) (begins_name name (value ++ rest) (is_in_word name e))

pub opens_nothing : Opens []
opens_nothing rest b = b

-- the first change of a part, and what follows it
pub placed_opens : (place : List ℕ) (c : Change) (others : List ℕ) → list_all plain place ≡ true → Opens (placed_change place 0 c ++ others)
placed_opens place c others e = by (nat_eq c.at 0)
  where
    value : List ℕ
    value = repeated_text c.byte c.count

    new : Opens (((codes " " ++ (place ++ codes "=")) ++ value) ++ others)
    new rest b =
        subst (λ l. Begins (0x20 ∷ l))
        (sym (ap (λ l. (l ++ others) ++ rest) (append_assoc place (codes "=") value) ∙ ap (λ l. l ++ rest) (append_assoc place (0x3D ∷ value) others)
        ∙ append_assoc place (0x3D ∷ (value ++ others)) rest))
        (begins_name place ((value ++ others) ++ rest) (is_in_word place e))

    by : (same : Bool) → Opens ((cond (same && false) (codes ",") (codes " " ++ (place ++ codes "=")) ++ value) ++ others)
    by true = new
    by false = new
