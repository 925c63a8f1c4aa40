-- The characters of a quoted text, one after the other.
use Rattle.std.proofs.Common.{◌≡◌, ℕ, ◌+◌, ◌*◌, ◌<◌, ◌≤◌, Bool, true, false, ◌&&◌, List, [], ◌∷◌, length, get_or, drop, Ok, Err, ap, refl, eqb, arith, ◌∙◌}
use Rattle.std.proofs.lemmas.Bool.Decides.{nat_tests}
use Rattle.std.specs.Prelude.{Option, Some, None, ◌==◌, if◌then◌else◌}
use Rattle.source_defs.specs.Characters.{is_quote}
use Rattle.expression_defs.specs.Expression.{Absolute, characters_after, characters_value}
use Rattle.expression_defs.specs.declared.causes.ExprError.TheVariants.{BadToken}

-- the first character, where two quotes are one, and what comes after it
abbrev pub first_character : List ℕ → Option (ℕ × List ℕ)
first_character text =
    if length text == 0 then None
    else if is_quote (get_or text 0 0) && is_quote (get_or text 1 0) then Some (get_or text 0 0, drop 2 text)
    else Some (get_or text 0 0, drop 1 text)

-- the characters, by the first and those after it
abbrev with_first : Option (ℕ × List ℕ) → List ℕ
with_first None = []
with_first (Some found) = found.0 ∷ characters_after false found.1

one_first : (b : Bool) (byte : ℕ) → is_quote byte ≡ b → characters_after false (byte ∷ []) ≡ with_first (first_character (byte ∷ []))
one_first true byte e = rw e refl
one_first false byte e = rw e refl

not_empty : (byte : ℕ) (bytes : List ℕ) → eqb (length (byte ∷ bytes)) 0 ≡ false
not_empty byte bytes = let more : 0 < length (byte ∷ bytes) = omega arith in grind (arith, nat_tests)

two_first : (b c : Bool) (byte second : ℕ) (others : List ℕ) → is_quote byte ≡ b → is_quote second ≡ c
    → characters_after false (byte ∷ second ∷ others) ≡ with_first (first_character (byte ∷ second ∷ others))
two_first b c byte second others e f = rw (not_empty byte (second ∷ others)) (by b c e f)
  where
    by : (b c : Bool) → is_quote byte ≡ b → is_quote second ≡ c
        → characters_after false (byte ∷ second ∷ others)
        ≡ with_first (if is_quote byte && is_quote second then Some (byte, others) else Some (byte, second ∷ others))
    by true true e f = rw (e, f) refl
    by true false e f = rw (e, f) (rw f refl)
    by false true e f = rw (e, f) refl
    by false false e f = rw (e, f) refl

by_first : (text : List ℕ) → characters_after false text ≡ with_first (first_character text)
by_first [] = refl
by_first (byte ∷ []) = one_first _ byte refl
by_first (byte ∷ second ∷ others) = two_first _ _ byte second others refl refl

pub characters_none : (text : List ℕ) → first_character text ≡ None → characters_after false text ≡ []
characters_none text e = by_first text ∙ rw e refl

pub characters_some : (text : List ℕ) (first : ℕ) (others : List ℕ) → first_character text ≡ Some (first, others)
    → characters_after false text ≡ first ∷ characters_after false others
characters_some text first others e = by_first text ∙ rw e refl

-- what is left has a character where it has a byte
pub characters_left : (text : List ℕ) (byte : ℕ) (bytes : List ℕ) → text ≡ byte ∷ bytes
    → (first : ℕ) × ((others : List ℕ) × (characters_after false text ≡ first ∷ others))
characters_left text byte bytes e = rw e (left byte bytes)
  where
    left : (byte : ℕ) (bytes : List ℕ) → (first : ℕ) × ((others : List ℕ) × (characters_after false (byte ∷ bytes) ≡ first ∷ others))
    left byte bytes = by _ refl
      where
        by : (b : Bool) → is_quote byte ≡ b → (first : ℕ) × ((others : List ℕ) × (characters_after false (byte ∷ bytes) ≡ first ∷ others))
        by true e = (byte, (characters_after true bytes, rw e refl))
        by false e = (byte, (characters_after false bytes, rw e refl))

-- the value of no character, of one, of two, and of more
pub value_none : (text : List ℕ) → first_character text ≡ None → characters_value (characters_after false text) ≡ Err BadToken
value_none text e = ap characters_value (characters_none text e)

pub value_one : (text : List ℕ) (low : ℕ) (others : List ℕ) → first_character text ≡ Some (low, others)
    → first_character others ≡ None → characters_value (characters_after false text) ≡ Ok (Absolute low)
value_one text low others e f =
    ap characters_value (characters_some text low others e ∙ ap (λ after. low ∷ after) (characters_none others f))

pub value_two : (text : List ℕ) (high : ℕ) (others : List ℕ) (low : ℕ) → first_character text ≡ Some (high, others)
    → first_character others ≡ Some (low, []) → characters_value (characters_after false text) ≡ Ok (Absolute (high * 256 + low))
value_two text high others low e f =
    ap characters_value (characters_some text high others e ∙ ap (λ after. high ∷ after) (characters_some others low [] f))

pub value_more : (text : List ℕ) (first : ℕ) (others : List ℕ) (second : ℕ) (more : List ℕ) → first_character text ≡ Some (first, others)
    → first_character others ≡ Some (second, more) → 1 ≤ length more → characters_value (characters_after false text) ≡ Err BadToken
value_more text first others second [] e f some = absurd (omega arith)
value_more text first others second (byte ∷ bytes) e f some =
    let left = characters_left (byte ∷ bytes) byte bytes refl in
    ap characters_value (characters_some text first others e ∙ ap (λ after. first ∷ after) (characters_some others second (byte ∷ bytes) f ∙ ap (λ after. second ∷ after) left.1.1))
