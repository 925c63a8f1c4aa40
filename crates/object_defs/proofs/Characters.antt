-- Written text is made of characters that print.
use Rattle.std.proofs.Common.{◌≡◌, ℕ, zero, suc, ◌+◌, ◌-◌, ◌/◌, ◌%◌, ◌<◌, Bool, true, false, cond, List, [], ◌∷◌, ◌++◌, length, replicate, Option, Some, None}
use Rattle.std.proofs.Common.{refl, append-nil, arith}
use Rattle.std.specs.Prelude.{nat_lt, nat_le, ◌&&◌, ◌==◌}
use Rattle.std.proofs.lemmas.Bool.Decides.{nat_tests}
use Rattle.source_defs.specs.Numbers.{hexadecimal_digit}
use Rattle.source_defs.specs.Names.{is_kept_name, is_printed, all_printed}
use Rattle.object_defs.specs.declared.spot.Spot.{Spot}
use Rattle.object_defs.specs.declared.spot.Spot.TheVariants.{Absolute, Relocatable}
use Rattle.object_defs.specs.declared.spot.Piece.{Piece}
use Rattle.object_defs.specs.declared.tag.Tag.{Tag}
use Rattle.object_defs.specs.declared.tag.Tag.TheVariants as tags
use Rattle.object_defs.specs.Modules.{Definition, Reference, same_spot, is_name_character, all_name_characters, is_module_name}
use Rattle.source_defs.specs.Digits.{word_digits}
use Rattle.object_defs.specs.Digits.{four_digits, padded, checksum}
use Rattle.object_defs.specs.Tags.{tag_character, kind_of}
use Rattle.object_defs.specs.Writing.{group, word_text, address_text, definition_text, reference_text, entry_text, header_text, Placed, item_text, summed}
use Rattle.object_defs.proofs.Conjunctions.{and_left, and_right}

pub after_each_other : (a b : List ℕ) → all_name_characters a ≡ true → all_name_characters b ≡ true → all_name_characters (a ++ b) ≡ true
after_each_other [] b p q = q
after_each_other (c ∷ a) b p q =
    let here : is_name_character c ≡ true = and_left (is_name_character c) (all_name_characters a) p in
    rw (here, after_each_other a b (and_right (is_name_character c) (all_name_characters a) p) q) refl

digit_prints : (v : ℕ) → v < 16 → is_name_character (hexadecimal_digit v) ≡ true
digit_prints v lt = grind (arith, nat_tests)

decimal_prints : (v : ℕ) → v < 10 → is_name_character (0x30 + v) ≡ true
decimal_prints v lt = grind (arith, nat_tests)

pub word_digits_print : (n : ℕ) → all_name_characters (word_digits n) ≡ true
unfolding word_digits
word_digits_print n =
    let a : is_name_character (hexadecimal_digit (n / 4096 % 16)) ≡ true = digit_prints (n / 4096 % 16) (omega arith) in
    let b : is_name_character (hexadecimal_digit (n / 256 % 16)) ≡ true = digit_prints (n / 256 % 16) (omega arith) in
    let c : is_name_character (hexadecimal_digit (n / 16 % 16)) ≡ true = digit_prints (n / 16 % 16) (omega arith) in
    let d : is_name_character (hexadecimal_digit (n % 16)) ≡ true = digit_prints (n % 16) (omega arith) in
    rw (a, b, c, d) refl

pub decimal_number_prints : (n : ℕ) → all_name_characters (four_digits n) ≡ true
unfolding four_digits
decimal_number_prints n =
    let a : is_name_character (0x30 + n / 1000 % 10) ≡ true = decimal_prints (n / 1000 % 10) (omega arith) in
    let b : is_name_character (0x30 + n / 100 % 10) ≡ true = decimal_prints (n / 100 % 10) (omega arith) in
    let c : is_name_character (0x30 + n / 10 % 10) ≡ true = decimal_prints (n / 10 % 10) (omega arith) in
    let d : is_name_character (0x30 + n % 10) ≡ true = decimal_prints (n % 10) (omega arith) in
    rw (a, b, c, d) refl

pub blanks_print : (k : ℕ) → all_name_characters (replicate k 0x20) ≡ true
blanks_print zero = refl
blanks_print (suc k) = blanks_print k

pub padded_prints : (width : ℕ) (bytes : List ℕ) → all_name_characters bytes ≡ true → all_name_characters (padded width bytes) ≡ true
padded_prints width bytes h = after_each_other bytes (replicate (width - length bytes) 0x20) h (blanks_print (width - length bytes))

printed_is : (c : ℕ) → is_printed c ≡ true → is_name_character c ≡ true
printed_is c h = grind (arith, nat_tests)

printed_prints : (name : List ℕ) → all_printed name ≡ true → all_name_characters name ≡ true
printed_prints [] h = refl
printed_prints (c ∷ name) h =
    let here : is_name_character c ≡ true = printed_is c (and_left (is_printed c) (all_printed name) h) in
    rw (here, printed_prints name (and_right (is_printed c) (all_printed name) h)) refl

-- a tag that prints
abbrev TagPrints : Tag → Type 0
TagPrints tag = is_name_character (tag_character tag) ≡ true

group_prints : (tag : Tag) (n : ℕ) → TagPrints tag → all_name_characters (group tag n) ≡ true
group_prints tag n is = rw is (word_digits_print n)

pub word_prints : (word : Spot) → all_name_characters (word_text word) ≡ true
word_prints (Absolute n) = group_prints (tags.Word (kind_of (Absolute n))) n refl
word_prints (Relocatable n) = group_prints (tags.Word (kind_of (Relocatable n))) n refl

pub address_prints : (at : Spot) → all_name_characters (address_text at) ≡ true
address_prints (Absolute n) = group_prints (tags.Address (kind_of (Absolute n))) n refl
address_prints (Relocatable n) = group_prints (tags.Address (kind_of (Relocatable n))) n refl

pub entry_prints : (entry : Spot) → all_name_characters (entry_text entry) ≡ true
entry_prints (Absolute n) = group_prints (tags.Entry (kind_of (Absolute n))) n refl
entry_prints (Relocatable n) = group_prints (tags.Entry (kind_of (Relocatable n))) n refl

named_prints : (tag : Tag) (n : ℕ) (name : List ℕ) → TagPrints tag → all_name_characters name ≡ true → all_name_characters (group tag n ++ name) ≡ true
named_prints tag n name is h = after_each_other (group tag n) name (group_prints tag n is) h

kept_prints : (name : List ℕ) → is_kept_name name ≡ true → all_name_characters (padded 6 name) ≡ true
kept_prints name h = padded_prints 6 name (printed_prints name (and_right (nat_lt 0 (length name) && nat_le (length name) 6) (all_printed name) h))

pub definition_prints : (definition : Definition) → is_kept_name definition.name ≡ true → all_name_characters (definition_text definition) ≡ true
definition_prints definition h = by definition.value
  where
    by : (value : Spot) → all_name_characters (definition_text (record { name = definition.name; value = value })) ≡ true
    by (Absolute n) = named_prints (tags.Definition (kind_of (Absolute n))) n (padded 6 definition.name) refl (kept_prints definition.name h)
    by (Relocatable n) = named_prints (tags.Definition (kind_of (Relocatable n))) n (padded 6 definition.name) refl (kept_prints definition.name h)

pub reference_prints : (reference : Reference) → is_kept_name reference.name ≡ true → all_name_characters (reference_text reference) ≡ true
reference_prints reference h = by reference.last
  where
    by : (last : Spot) → all_name_characters (reference_text (record { name = reference.name; last = last })) ≡ true
    by (Absolute n) = named_prints (tags.Reference (kind_of (Absolute n))) n (padded 6 reference.name) refl (kept_prints reference.name h)
    by (Relocatable n) = named_prints (tags.Reference (kind_of (Relocatable n))) n (padded 6 reference.name) refl (kept_prints reference.name h)

pub header_prints : (size : ℕ) (name : List ℕ) → is_module_name name ≡ true → all_name_characters (header_text size name) ≡ true
header_prints size name h =
    named_prints tags.Header size (padded 8 name) refl (padded_prints 8 name (and_right (length name == 8) (all_name_characters name) h))

pub piece_prints : (next : Option Spot) (piece : Piece) → all_name_characters (item_text next (Placed piece)) ≡ true
piece_prints None piece = after_each_other (address_text piece.at) (word_text piece.word) (address_prints piece.at) (word_prints piece.word)
piece_prints (Some s) piece = by (same_spot s piece.at)
  where
    by : (b : Bool) → all_name_characters (cond b (word_text piece.word) (address_text piece.at ++ word_text piece.word)) ≡ true
    by true = word_prints piece.word
    by false = after_each_other (address_text piece.at) (word_text piece.word) (address_prints piece.at) (word_prints piece.word)

pub summed_prints : (text : List ℕ) → all_name_characters text ≡ true → all_name_characters (summed text) ≡ true
summed_prints text h =
    after_each_other text (group tags.Sum (checksum (text ++ 0x37 ∷ [])) ++ 0x46 ∷ []) h
    (after_each_other (group tags.Sum (checksum (text ++ 0x37 ∷ []))) (0x46 ∷ []) (word_digits_print (checksum (text ++ 0x37 ∷ []))) refl)

pub name_padded : (name : List ℕ) → is_module_name name ≡ true → padded 8 name ≡ name
name_padded name h =
    let eight : (length name == 8) ≡ true = and_left (length name == 8) (all_name_characters name) h in
    let none : 8 - length name ≡ 0 = grind (arith, nat_tests) in
    rw none (append-nil name)

pub name_length : (name : List ℕ) → is_module_name name ≡ true → length name ≡ 8
name_length name h =
    let eight : (length name == 8) ≡ true = and_left (length name == 8) (all_name_characters name) h in
    grind (arith, nat_tests)
