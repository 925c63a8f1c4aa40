-- Names, and words that are compared with no heed of case.
use Rattle.std.specs.Prelude.{◌≡◌, ℕ, ◌==◌, Bool, ◌&&◌, ◌||◌, nat_lt, nat_le, if◌then◌else◌, List, [], ◌∷◌}
use Rattle.std.specs.Prelude.{length, slice_index, map, IsTrue, nat_eq, Option, Some, None}
use Rattle.std.specs.List.{list_all, zip}
use Rattle.source_defs.specs.Characters.{is_digit, is_letter, upper_case}
use Rattle.std.specs.Cmp.Lexicographic.{pointwise}

abbrev pub is_letter_or_digit : ℕ → Bool
is_letter_or_digit byte = is_letter byte || is_digit byte

abbrev pub all_letters_or_digits : List ℕ → Bool
all_letters_or_digits bytes = list_all is_letter_or_digit bytes

-- Editor/Assembler manual, "Symbols": a letter, and up to five letters or digits.
abbrev pub is_name : List ℕ → Bool
is_name bytes =
    nat_lt 0 (length bytes) && nat_le (length bytes) 6 && is_letter (slice_index bytes 0) && all_letters_or_digits bytes

-- a name whose letters are in upper case
pub record IsUpperCaseName (bytes : List ℕ) : Type 0 where
  pub name : IsTrue (is_name bytes)
  pub upper : map upper_case bytes ≡ bytes

-- a character that prints, other than the space
abbrev pub is_printed : ℕ → Bool
is_printed byte = nat_le 0x21 byte && nat_le byte 0x7E

abbrev pub all_printed : List ℕ → Bool
all_printed bytes = list_all is_printed bytes

-- Profile: a name that is kept may hold any printed character, since object text may name such symbols:
-- one to six of them.
abbrev pub is_kept_name : List ℕ → Bool
is_kept_name bytes = nat_lt 0 (length bytes) && nat_le (length bytes) 6 && all_printed bytes

-- each letter of a text, in upper case, is the word's
abbrev pub same_letters : List ℕ → List ℕ → Bool
same_letters text word = list_all (λ pair. upper_case pair.0 == pair.1) (zip text word)

-- Profile: letters outside quotes are taken as upper case. Whether a text is the word, which is in upper case.
abbrev pub is_word : List ℕ → List ℕ → Bool
is_word text word = (length text == length word) && same_letters text word

-- What a text names in a table of words: what stands beside the first word that the text is.
abbrev pub named_in : {A : Type 0} → List (List ℕ × A) → List ℕ → Option A
named_in [] text = None
named_in (row ∷ rows) text = if is_word text row.0 then Some row.1 else named_in rows text

-- two texts are the same, byte by byte
abbrev pub same_text : List ℕ → List ℕ → Bool
same_text a b = pointwise nat_eq a b
