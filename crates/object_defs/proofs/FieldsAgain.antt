-- Fields that were written are read again.
use Rattle.std.proofs.Common.{◌≡◌, ℕ, zero, suc, ◌+◌, ◌-◌, ◌*◌, ◌/◌, ◌%◌, ◌<◌, ◌≤◌, true, false, List, [], ◌∷◌, ◌++◌, length, take, drop, replicate, Ok, refl}
use Rattle.std.proofs.Common.{◌∙◌, length-append, arith}
use Rattle.std.specs.Prelude.{nat_lt, nat_le, ◌&&◌, ◌==◌}
use Rattle.std.proofs.lemmas.Bool.Decides.{nat_tests}
use Rattle.std.proofs.lemmas.List.{take_at, drop_at, length-replicate}
use Rattle.source_defs.specs.Characters.{is_blank}
use Rattle.source_defs.specs.Names.{is_kept_name, all_printed, is_printed}
use Rattle.source_defs.specs.Numbers.{is_hexadecimal_digit, hexadecimal_digit, digit_value}
use Rattle.object_defs.specs.declared.form.TextForm.TheVariants.{Plain}
use Rattle.object_defs.specs.Modules.{all_name_characters, is_module_name}
use Rattle.source_defs.specs.Digits.{word_digits}
use Rattle.object_defs.specs.Digits.{padded}
use Rattle.object_defs.specs.Fields.{digits_at, number_at, module_name_at, symbol_at, all_blank, trim_trailing_blanks}
use Rattle.object_defs.proofs.Conjunctions.{and_left, and_right}

digit_is : (v : ℕ) → v < 16 → is_hexadecimal_digit (hexadecimal_digit v) ≡ true
digit_is v lt = grind (arith, nat_tests)

digit_back : (v : ℕ) → v < 16 → digit_value (hexadecimal_digit v) ≡ v
digit_back v lt = grind (arith, nat_tests)

four_again : (a b c d n : ℕ) (rest : List ℕ) → a < 16 → b < 16 → c < 16 → d < 16 → ((a * 16 + b) * 16 + c) * 16 + d ≡ n
    → number_at Plain (hexadecimal_digit a ∷ hexadecimal_digit b ∷ hexadecimal_digit c ∷ hexadecimal_digit d ∷ rest) ≡ Ok n
unfolding digits_at
four_again a b c d n rest la lb lc ld e =
    let value : (((0 * 16 + a) * 16 + b) * 16 + c) * 16 + d ≡ n = omega arith in
    rw (digit_is a la, digit_is b lb, digit_is c lc, digit_is d ld, digit_back a la, digit_back b lb, digit_back c lc, digit_back d ld, value) refl

pub number_again : (n : ℕ) (rest : List ℕ) → n < 65536 → number_at Plain (word_digits n ++ rest) ≡ Ok n
unfolding word_digits
number_again n rest lt = four_again (n / 4096 % 16) (n / 256 % 16) (n / 16 % 16) (n % 16) n rest (omega arith) (omega arith) (omega arith) (omega arith) (omega arith)

pub digits_length : (n : ℕ) → length (word_digits n) ≡ 4
unfolding word_digits
digits_length n = refl

printed_no_blank : (c : ℕ) → is_printed c ≡ true → is_blank c ≡ false
printed_no_blank c h = grind (arith, nat_tests)

blanks : (k : ℕ) → all_blank (replicate k 0x20) ≡ true
blanks zero = refl
blanks (suc k) = blanks k

no_blanks : (k : ℕ) → trim_trailing_blanks (replicate k 0x20) ≡ []
unfolding trim_trailing_blanks
no_blanks zero = refl
no_blanks (suc k) = rw (blanks k) refl

-- a name without the blanks that were put after it
name_again : (name : List ℕ) (k : ℕ) → all_printed name ≡ true → trim_trailing_blanks (name ++ replicate k 0x20) ≡ name
unfolding trim_trailing_blanks
name_again [] k h = no_blanks k
name_again (c ∷ name) k h = let other : is_blank c ≡ false = printed_no_blank c (and_left (is_printed c) (all_printed name) h) in rw (other, name_again name k (and_right (is_printed c) (all_printed name) h)) refl

-- a name in a field of six characters
pub kept_length : (name : List ℕ) → is_kept_name name ≡ true → length (padded 6 name) ≡ 6
kept_length name h =
    let front : (nat_lt 0 (length name) && nat_le (length name) 6) ≡ true = and_left _ (all_printed name) h in
    let short : length name ≤ 6 = let le : nat_le (length name) 6 ≡ true = and_right (nat_lt 0 (length name)) _ front in grind (arith, nat_tests) in
    let after_name = length-replicate {A = ℕ} (6 - length name) 0x20 in
    length-append name (replicate {A = ℕ} (6 - length name) 0x20) ∙ omega arith

pub symbol_again : (tag n : ℕ) (name rest : List ℕ) → is_kept_name name ≡ true → symbol_at Plain tag (word_digits n ++ (padded 6 name ++ rest)) ≡ Ok name
unfolding symbol_at
symbol_again tag n name rest h =
    let printed : all_printed name ≡ true = and_right (nat_lt 0 (length name) && nat_le (length name) 6) (all_printed name) h in
    let after : drop 4 (word_digits n ++ (padded 6 name ++ rest)) ≡ padded 6 name ++ rest = drop_at (word_digits n) _ 4 (digits_length n) in
    let size = kept_length name h in
    let field : take 6 (padded 6 name ++ rest) ≡ padded 6 name = take_at (padded 6 name) rest 6 size in
    let kept : trim_trailing_blanks (padded 6 name) ≡ name = name_again name (6 - length name) printed in
    rw (after, field, size, kept, h) refl

pub module_name_again : (tag n : ℕ) (name rest : List ℕ) → is_module_name name ≡ true → module_name_at Plain tag (word_digits n ++ (name ++ rest)) ≡ Ok name
unfolding module_name_at
module_name_again tag n name rest h =
    let characters : all_name_characters name ≡ true = and_right (length name == 8) (all_name_characters name) h in
    let size : length name ≡ 8 = let eight : (length name == 8) ≡ true = and_left (length name == 8) (all_name_characters name) h in grind (arith, nat_tests) in
    let after : drop 4 (word_digits n ++ (name ++ rest)) ≡ name ++ rest = drop_at (word_digits n) _ 4 (digits_length n) in
    let field : take 8 (name ++ rest) ≡ name = take_at name rest 8 size in
    rw (after, field, characters, size) refl
