-- What an operation field names, by the number of its text.
use Rattle.std.proofs.Common.{◌≡◌, ℕ, Bool, true, false, cond, List, [], ◌∷◌, ◌++◌, None, Some, refl, sym, ap, ◌∙◌}
use Rattle.std.specs.Prelude.{Option, ◌==◌, find}
use Rattle.std.specs.Option.{option_map}
use Rattle.gpl_source_defs.specs.Mnemonics.{mnemonic, mnemonics, name_of}
use Rattle.asm_text.specs.WordKeys.{word_key, with_key}
use Rattle.gpl_lines.specs.Named.{named}
use Rattle.asm_text.proofs.WordKeys.{AreBytes, words_found}

pub by_key : (text : List ℕ) → AreBytes text → mnemonic text ≡ with_key (word_key text) named
unfolding mnemonic
by_key text bytes = words_found name_of text mnemonics bytes refl

-- by the number that the text has, or by none
pub by_number : (text : List ℕ) (key : Option ℕ) → AreBytes text → key ≡ word_key text → with_key key named ≡ mnemonic text
by_number text key bytes is = ap (λ (key : Option ℕ). with_key key named) is ∙ sym (by_key text bytes)

-- a number in a table that is in two parts: in the first of them, or in the other
module _ {A : Type 0} (key : ℕ) (others : List (ℕ × A)) where
  abbrev found_by : Bool → ℕ × A → List (ℕ × A) → Option A
  found_by here row rows = option_map (λ (row : ℕ × A). row.1) (cond here (Some row) (find (λ (row : ℕ × A). key == row.0) rows))

  first_by : (here : Bool) (row : ℕ × A) (rows : List (ℕ × A)) (found : A)
      → (Some found ≡ with_key (Some key) rows → Some found ≡ with_key (Some key) (rows ++ others))
      → Some found ≡ found_by here row rows → Some found ≡ found_by here row (rows ++ others)
  first_by true row rows found later is = is
  first_by false row rows found later is = later is

  other_by : (here : Bool) (row : ℕ × A) (rows : List (ℕ × A))
      → (None ≡ with_key (Some key) rows → with_key (Some key) others ≡ with_key (Some key) (rows ++ others))
      → None ≡ found_by here row rows → with_key (Some key) others ≡ found_by here row (rows ++ others)
  other_by true row rows later none = cc
  other_by false row rows later none = later none

  pub in_first : (rows : List (ℕ × A)) (found : A) → Some found ≡ with_key (Some key) rows → Some found ≡ with_key (Some key) (rows ++ others)
  in_first [] found is = cc
  in_first (row ∷ rows) found is = first_by (key == row.0) row rows found (in_first rows found) is

  pub in_other : (rows : List (ℕ × A)) → None ≡ with_key (Some key) rows → with_key (Some key) others ≡ with_key (Some key) (rows ++ others)
  in_other [] none = refl
  in_other (row ∷ rows) none = other_by (key == row.0) row rows (in_other rows) none
