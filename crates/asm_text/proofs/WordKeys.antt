-- A text is a word where its key is the word's.
use Rattle.std.proofs.Common.{◌≡◌, ℕ, suc, ◌+◌, ◌*◌, ◌<◌, Bool, true, false, cond, List, [], ◌∷◌, length, get_or, drop, Some, None, refl, sym, ap, ◌∙◌, arith}
use Rattle.std.proofs.Common.{Fits, w8}
use Rattle.std.specs.Prelude.{◌&&◌, ◌==◌, nat_lt, nat_le, map, find, Option}
use Rattle.std.specs.List.{list_all}
use Rattle.std.specs.Option.{option_map}
use Rattle.std.specs.Cmp.{first_so, second_so}
use Rattle.std.proofs.Math.Dec.{eqb-suc-suc}
use Rattle.std.proofs.lemmas.List.{drop_more}
use Rattle.std.proofs.lemmas.Bool.Decides.{nat_tests}
use Rattle.source_defs.specs.Characters.{upper_case}
use Rattle.source_defs.specs.Names.{is_word, same_letters, named_in}
use Rattle.asm_text.specs.WordKeys.{key_of, word_key, is_short, is_of_key, with_key}

-- each of them is a byte
abbrev pub AreBytes : List ℕ → Type 0
AreBytes text = (at : ℕ) → Fits w8 (get_or text at 0)

upper_case_byte : (byte : ℕ) → byte < 256 → upper_case byte < 256
upper_case_byte byte lt = grind (arith, nat_tests)

above : (word : List ℕ) → 0 < key_of word
above [] = omega arith
above (letter ∷ letters) = let more = above letters in omega arith

exchanged : (a b c : Bool) → (a && (b && c)) ≡ (b && (a && c))
exchanged true true c = refl
exchanged true false c = refl
exchanged false true c = refl
exchanged false false c = refl

word_after : (letter : ℕ) (rest : List ℕ) (first : ℕ) (name : List ℕ)
    → is_word (letter ∷ rest) (first ∷ name) ≡ ((upper_case letter == first) && is_word rest name)
word_after letter rest first name =
    ap (λ same. same && ((upper_case letter == first) && same_letters rest name)) (eqb-suc-suc (length rest) (length name))
    ∙ exchanged (length rest == length name) (upper_case letter == first) (same_letters rest name)

-- two digits are the same where their numbers are
digits_same : (a b k l : ℕ) → a < 256 → b < 256 → ((a == b) && (k == l)) ≡ (a + 256 * k == b + 256 * l)
digits_same a b k l p q = grind (arith, nat_tests)

shorter : (k l : ℕ) → 0 < l → (1 == k + 256 * l) ≡ false
shorter k l lt = grind (arith, nat_tests)

longer : (k l : ℕ) → 0 < l → (k + 256 * l == 1) ≡ false
longer k l lt = grind (arith, nat_tests)

-- a text of any length is a word where its key is the word's
keys_are_distinct : (text word : List ℕ) → AreBytes text → list_all (λ letter. nat_lt letter 256) word ≡ true
    → is_word text word ≡ (key_of (map upper_case text) == key_of word)
keys_are_distinct [] [] p q = refl
keys_are_distinct [] (letter ∷ word) p q =
    let apart : (0 == length (letter ∷ word)) ≡ false = grind (arith, nat_tests) in
    ap (λ same. same && same_letters [] (letter ∷ word)) apart ∙ sym (shorter letter (key_of word) (above word))
keys_are_distinct (byte ∷ text) [] p q =
    let apart : (length (byte ∷ text) == 0) ≡ false = grind (arith, nat_tests) in
    ap (λ same. same && same_letters (byte ∷ text) []) apart
    ∙ sym (longer (upper_case byte) (key_of (map upper_case text)) (above (map upper_case text)))
keys_are_distinct (byte ∷ text) (letter ∷ word) p q =
    let here : nat_lt letter 256 ≡ true = first_so (nat_lt letter 256) (list_all (λ letter. nat_lt letter 256) word) q in
    let there : list_all (λ letter. nat_lt letter 256) word ≡ true = second_so (nat_lt letter 256) (list_all (λ letter. nat_lt letter 256) word) q in
    let low : letter < 256 = grind (arith, nat_tests) in
    word_after byte text letter word
    ∙ (ap (λ same. (upper_case byte == letter) && same) (keys_are_distinct text word (λ at. p (suc at)) there)
    ∙ digits_same (upper_case byte) letter (key_of (map upper_case text)) (key_of word) (upper_case_byte byte (omega (arith, p 0))) low)

-- a text is a word where its key, if it has one, is the word's
pub word_by_key : (text word : List ℕ) → AreBytes text → is_short word ≡ true → is_word text word ≡ is_of_key (word_key text) word
word_by_key text word p short = by (nat_le (length text) 5) refl
  where
    few : nat_le (length word) 5 ≡ true
    few = first_so (nat_le (length word) 5) (list_all (λ letter. nat_lt letter 256) word) short

    bytes : list_all (λ letter. nat_lt letter 256) word ≡ true
    bytes = second_so (nat_le (length word) 5) (list_all (λ letter. nat_lt letter 256) word) short

    by : (b : Bool) → nat_le (length text) 5 ≡ b → is_word text word ≡ is_of_key (cond b (Some (key_of (map upper_case text))) None) word
    by true e = keys_are_distinct text word p bytes
    by false e =
        let apart : (length text == length word) ≡ false = grind (arith, nat_tests) in
        ap (λ same. same && same_letters text word) apart

-- the same of each thing that has a name
pub words_found : {A : Type 0} (name : A → List ℕ) (text : List ℕ) (things : List A) → AreBytes text → list_all (λ thing. is_short (name thing)) things ≡ true
    → find (λ thing. is_word text (name thing)) things ≡ with_key (word_key text) (map (λ thing. (key_of (name thing), thing)) things)
words_found {A} name text things p short = word_is things short ∙ rows (word_key text) things
  where
    word_is : (some : List A) → list_all (λ thing. is_short (name thing)) some ≡ true
        → find (λ thing. is_word text (name thing)) some ≡ find (λ thing. is_of_key (word_key text) (name thing)) some
    word_is [] q = refl
    word_is (thing ∷ others) q =
        let here = first_so (is_short (name thing)) (list_all (λ it. is_short (name it)) others) q in
        let there = second_so (is_short (name thing)) (list_all (λ it. is_short (name it)) others) q in
        ap (λ found. cond found (Some thing) (find (λ it. is_word text (name it)) others)) (word_by_key text (name thing) p here)
        ∙ ap (cond (is_of_key (word_key text) (name thing)) (Some thing)) (word_is others there)

    either : (b : Bool) (thing : A) (others : List A) (key : ℕ) (rest : Option A)
        → rest ≡ option_map (λ (row : ℕ × A). row.1) (find (λ row. key == row.0) (map (λ it. (key_of (name it), it)) others))
        → cond b (Some thing) rest ≡ option_map (λ (row : ℕ × A). row.1)
        (cond b (Some (key_of (name thing), thing)) (find (λ row. key == row.0) (map (λ it. (key_of (name it), it)) others)))
    either true thing others key rest e = refl
    either false thing others key rest e = e

    rows : (key : Option ℕ) (some : List A)
        → find (λ thing. is_of_key key (name thing)) some ≡ with_key key (map (λ thing. (key_of (name thing), thing)) some)
    rows None [] = refl
    rows None (thing ∷ others) = rows None others
    rows (Some key) [] = refl
    rows (Some key) (thing ∷ others) = either (key == key_of (name thing)) thing others key _ (rows (Some key) others)

-- what a text names in a table of words, by its number in the table of their numbers
pub first_by_key : {A : Type 0} (text : List ℕ) (rows : List (List ℕ × A)) → AreBytes text → list_all (λ (row : List ℕ × A). is_short row.0) rows ≡ true
    → named_in rows text ≡ with_key (word_key text) (map (λ (row : List ℕ × A). (key_of row.0, row.1)) rows)
first_by_key {A} text rows p short = word_is rows short
  where
    keyed : List (List ℕ × A) → List (ℕ × A)
    keyed some = map (λ (row : List ℕ × A). (key_of row.0, row.1)) some

    none : (key : Option ℕ) → None ≡ with_key key (keyed [])
    none None = refl
    none (Some key) = refl

    more : (key : Option ℕ) (row : List ℕ × A) (others : List (List ℕ × A))
        → cond (is_of_key key row.0) (Some row.1) (with_key key (keyed others)) ≡ with_key key (keyed (row ∷ others))
    more None row others = refl
    more (Some key) row others = by (key == key_of row.0)
      where
        by : (b : Bool) → cond b (Some row.1) (with_key (Some key) (keyed others))
            ≡ option_map (λ (row : ℕ × A). row.1) (cond b (Some (key_of row.0, row.1)) (find (λ (row : ℕ × A). key == row.0) (keyed others)))
        by true = refl
        by false = refl

    word_is : (some : List (List ℕ × A)) → list_all (λ (row : List ℕ × A). is_short row.0) some ≡ true
        → named_in some text ≡ with_key (word_key text) (keyed some)
    word_is [] q = none (word_key text)
    word_is (row ∷ others) q =
        let here = first_so (is_short row.0) (list_all (λ (it : List ℕ × A). is_short it.0) others) q in
        let there = second_so (is_short row.0) (list_all (λ (it : List ℕ × A). is_short it.0) others) q in
        ap (λ found. cond found (Some row.1) (named_in others text)) (word_by_key text row.0 p here)
        ∙ (ap (cond (is_of_key (word_key text) row.0) (Some row.1)) (word_is others there) ∙ more (word_key text) row others)

-- a row of a table that has the key, and one that has another
module _ {A : Type 0} (rows : List (ℕ × A)) (at key : ℕ) (none : ℕ × A) (within : at < length rows) where
  abbrev row : ℕ × A
  row = get_or rows at none

  word_is : (b : Bool) → (key == row.0) ≡ b
      → with_key (Some key) (drop at rows) ≡ option_map (λ (row : ℕ × A). row.1) (cond b (Some row) (find (λ (row : ℕ × A). key == row.0) (drop (at + 1) rows)))
  word_is b is =
      ap (with_key (Some key)) (drop_more rows at none within)
      ∙ ap (λ found. option_map (λ (row : ℕ × A). row.1) (cond found (Some row) (find (λ (row : ℕ × A). key == row.0) (drop (at + 1) rows)))) is

  pub key_here : key ≡ row.0 → Some row.1 ≡ with_key (Some key) (drop at rows)
  key_here same = let is : (key == row.0) ≡ true = grind (arith, nat_tests) in sym (word_is true is)

  pub key_later : (key ≡ row.0 → ⊥) → with_key (Some key) (drop (at + 1) rows) ≡ with_key (Some key) (drop at rows)
  key_later other = let is : (key == row.0) ≡ false = grind (arith, nat_tests) in sym (word_is false is)
