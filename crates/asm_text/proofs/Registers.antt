-- A text that is a name alone, and one that is the name of a register.
use Rattle.std.proofs.Common.{◌≡◌, ℕ, ◌<◌, ◌≤◌, ◌⊎◌, inl, inr, Bool, true, false, List, cond, length, get_or, Some, None, Ok, Err, refl, sym, ap, ◌∙◌, arith}
use Rattle.std.specs.Prelude.{Option, Result, not, nat_lt, nat_le, map, slice_range, ◌==◌, ◌&&◌, if◌then◌else◌}
use Rattle.std.specs.FinMap.{get}
use Rattle.std.proofs.lemmas.Bool.{cases_lt, ltb-true, agree_below_at, eqb-true}
use Rattle.std.proofs.lemmas.Bool.Decides.{nat_tests}
use Rattle.std.proofs.lemmas.Grind.{common_steps}
use Rattle.std.proofs.lemmas.List.Folds.{list_all_at}
use Rattle.source_defs.specs.Characters.{is_digit, is_letter, upper_case}
use Rattle.source_defs.specs.Names.{is_letter_or_digit, all_letters_or_digits, is_name}
use Rattle.source_defs.specs.Least.{IsLeastPlace}
use Rattle.expression_defs.specs.Tokens.{Token, Name, token_to, token_at, name_end, is_hexadecimal_sign}
use Rattle.expression_defs.specs.declared.causes.ExprError.{ExprError}
use Rattle.expression_defs.specs.declared.causes.ExprError.TheVariants.{BadToken}
use Rattle.expression_defs.specs.Expression as defined
use Rattle.expression_defs.specs.Symbols.{register_name, registers}
use Rattle.source_defs.proofs.LeastLaws.{least_places_are_least}
use Rattle.expression_defs.proofs.SymbolLaws.{found}
use Rattle.asm_text.specs.declared.expressions.values.Value.{Value}
use Rattle.asm_text.specs.Kept.{names_of}
use Rattle.asm_text.proofs.OneToken.{value_is}
use Rattle.asm_text.proofs.Names.{get_kept, or_else}

not_true : (b : Bool) → not b ≡ true → b ≡ false
not_true true e = cc e
not_true false e = refl

-- letters and digits end with their text
ends : (text : List ℕ) → all_letters_or_digits text ≡ true → name_end text 0 ≡ length text
ends text all = by (cases_lt (name_end text 0) (length text)) (least_places_are_least (λ k. not (is_letter_or_digit (get_or text k 0))) text 0 (omega arith))
  where
    by : (name_end text 0 < length text) ⊎ (length text ≤ name_end text 0)
        → IsLeastPlace (λ k. not (is_letter_or_digit (get_or text k 0))) text 0 (name_end text 0) → name_end text 0 ≡ length text
    by (inl lt) least =
        let other : is_letter_or_digit (get_or text (name_end text 0) 0) ≡ false = not_true _ (least.passes lt) in
        cc (list_all_at is_letter_or_digit text (name_end text 0) 0 lt other, all)
    by (inr le) least = omega (arith, least.not_after_end, le)

abbrev field_token : Bool → List ℕ → ℕ → Result Token ExprError
field_token named field end = if named then Ok (token_to (Name (map upper_case field)) 0 end) else Err BadToken

abbrev token_of : List ℕ → ℕ → Result Token ExprError
token_of text end = field_token (is_name (slice_range text 0 end)) (slice_range text 0 end) end

name_parts : (a b c d : Bool) → (a && b && c && d) ≡ true → (a ≡ true) × ((c ≡ true) × (d ≡ true))
name_parts true true true true e = (refl, (refl, refl))
name_parts true true true false e = cc e
name_parts true true false d e = cc e
name_parts true false c d e = cc e
name_parts false b c d e = cc e

by_kind : {A : Type 0} (x y z w : A) (a b c : Bool) → a ≡ false → b ≡ false → c ≡ true → cond a x (cond b y (cond c z w)) ≡ z
by_kind x y z w true b c e f g = cc e
by_kind x y z w false true c e f g = cc f
by_kind x y z w false false true e f g = refl
by_kind x y z w false false false e f g = cc g

-- a name alone is one token
name_alone : (text : List ℕ) → is_name text ≡ true → token_at text 0 ≡ Ok (token_to (Name (map upper_case text)) 0 (length text))
unfolding token_at
name_alone text name =
    let parts = name_parts (nat_lt 0 (length text)) (nat_le (length text) 6) (is_letter (get_or text 0 0)) (all_letters_or_digits text) name in
    let letter : is_letter (get_or text 0 0) ≡ true = parts.1.0 in
    let end = ends text parts.1.1 in
    let sign : is_hexadecimal_sign (get_or text 0 0) ≡ false = grind (arith, nat_tests) in
    let digit : is_digit (get_or text 0 0) ≡ false = grind (arith, nat_tests) in
    let whole : slice_range text 0 (length text) ≡ text = grind (arith, common_steps) in
    by_kind _ _ _ _ _ _ _ sign digit letter ∙ ap (token_of text) end ∙ (ap (λ field. field_token (is_name field) field (length text)) whole
    ∙ ap (λ b. field_token b text (length text)) name)

-- the number that a register stands for
abbrev number_of : Option defined.Value → ℕ → Bool
number_of (Some (defined.Absolute found)) number = found == number
number_of (Some (defined.Relocatable found)) number = false
number_of (Some (defined.External name)) number = false
number_of None number = false

numbered : (value : Option defined.Value) (number : ℕ) → number_of value number ≡ true → value ≡ Some (defined.Absolute number)
numbered (Some (defined.Absolute found)) number is = ap (λ n. Some (defined.Absolute n)) (eqb-true found number is)
numbered (Some (defined.Relocatable found)) number is = cc is
numbered (Some (defined.External name)) number is = cc is
numbered None number is = cc is

register_is : (number : ℕ) → number < 16 → found (register_name number) registers ≡ Some (defined.Absolute number)
unfolding registers
register_is number lt =
    numbered _ number (agree_below_at (λ n. number_of (found (register_name n) registers) n) (λ _. true) 16 number refl lt)

first_of : (first second : Option defined.Value) (value : defined.Value) → first ≡ Some value → or_else first second ≡ Some value
first_of (Some first) second value e = e
first_of None second value e = cc e

-- the value of the name of a register alone
pub register_alone : (entries : List (List ℕ × Value)) (here : defined.Value) (text : List ℕ) (number : ℕ)
    → is_name text ≡ true → map upper_case text ≡ register_name number → number < 16
    → defined.expression (get (names_of entries)) here text ≡ Ok (defined.Absolute number)
register_alone entries here text number name written lt =
    let some : 0 < length text = ltb-true 0 (length text) (name_parts (nat_lt 0 (length text)) (nat_le (length text) 6) (is_letter (get_or text 0 0))
    (all_letters_or_digits text) name).0 in
    let found_value : get (names_of entries) (map upper_case text) ≡ Some (defined.Absolute number) =
    ap (get (names_of entries)) written ∙ (get_kept entries (register_name number) ∙ first_of _ _ _ (register_is number lt)) in
    sym (value_is (get (names_of entries)) here text some (token_to (Name (map upper_case text)) 0 (length text)) (sym (name_alone text name)) refl)
    ∙ ap defined.known_value found_value
