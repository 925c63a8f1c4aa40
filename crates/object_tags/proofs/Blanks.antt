-- Blanks at the end of a name.
use Rattle.std.proofs.Common.{◌≡◌, ℕ, Bool, true, false, List, [], ◌∷◌, ◌++◌, ◌+◌, ◌-◌, ◌<◌, ◌≤◌, length, take, get_or, refl, sym, ap, ◌∙◌, arith}
use Rattle.std.proofs.lemmas.List.{take_more}
use Rattle.std.specs.Prelude.{◌&&◌, if◌then◌else◌}
use Rattle.source_defs.specs.Characters.{is_blank}
use Rattle.object_defs.specs.Fields.{all_blank, trim_trailing_blanks}

and_false : (b : Bool) → (b && false) ≡ false
and_false true = refl
and_false false = refl

blank_after : (bytes : List ℕ) (last : ℕ) → is_blank last ≡ true → all_blank (bytes ++ last ∷ []) ≡ all_blank bytes
blank_after [] last h = rw h refl
blank_after (byte ∷ bytes) last h = ap (λ (b : Bool). is_blank byte && b) (blank_after bytes last h)

other_after : (bytes : List ℕ) (last : ℕ) → is_blank last ≡ false → all_blank (bytes ++ last ∷ []) ≡ false
other_after [] last h = rw h refl
other_after (byte ∷ bytes) last h = ap (λ (b : Bool). is_blank byte && b) (other_after bytes last h) ∙ and_false (is_blank byte)

blank_at_end : (bytes : List ℕ) (last : ℕ) → is_blank last ≡ true → trim_trailing_blanks (bytes ++ last ∷ []) ≡ trim_trailing_blanks bytes
unfolding trim_trailing_blanks
blank_at_end [] last h = rw h refl
blank_at_end (byte ∷ bytes) last h = rw (blank_after bytes last h, blank_at_end bytes last h) refl

no_blank_at_end : (bytes : List ℕ) (last : ℕ) → is_blank last ≡ false → trim_trailing_blanks (bytes ++ last ∷ []) ≡ bytes ++ last ∷ []
unfolding trim_trailing_blanks
no_blank_at_end [] last h = rw h refl
no_blank_at_end (byte ∷ bytes) last h = rw (other_after bytes last h, no_blank_at_end bytes last h) (by (is_blank byte))
  where
    by : (b : Bool) → (if b && false then [] else byte ∷ (bytes ++ last ∷ [])) ≡ byte ∷ (bytes ++ last ∷ [])
    by true = refl
    by false = refl

no_blanks : trim_trailing_blanks [] ≡ []
unfolding trim_trailing_blanks
no_blanks = refl

last_of : (field : List ℕ) (end : ℕ) → 0 < end → end ≤ length field → take end field ≡ take (end - 1) field ++ get_or field (end - 1) 0 ∷ []
last_of field end some within =
    let lt : end - 1 < length field = omega arith in
    let e : end ≡ (end - 1) + 1 = omega arith in
    ap (λ (n : ℕ). take n field) e ∙ take_more field (end - 1) 0 lt

-- the last of the first bytes is a blank
pub trim_more : (field : List ℕ) (end : ℕ) → 0 < end → end ≤ length field → is_blank (get_or field (end - 1) 0) ≡ true
    → trim_trailing_blanks (take (end - 1) field) ≡ trim_trailing_blanks (take end field)
trim_more field end some within blank =
    let one : take end field ≡ take (end - 1) field ++ get_or field (end - 1) 0 ∷ [] = last_of field end some within in
    rw one (sym (blank_at_end (take (end - 1) field) (get_or field (end - 1) 0) blank))

-- the last of the first bytes is no blank
pub trim_end : (field : List ℕ) (end : ℕ) → 0 < end → end ≤ length field → is_blank (get_or field (end - 1) 0) ≡ false
    → trim_trailing_blanks (take end field) ≡ take end field
trim_end field end some within other =
    let one : take end field ≡ take (end - 1) field ++ get_or field (end - 1) 0 ∷ [] = last_of field end some within in
    rw one (no_blank_at_end (take (end - 1) field) (get_or field (end - 1) 0) other)

-- no byte is left
pub trim_none : (field : List ℕ) (end : ℕ) → end ≤ 0 → trim_trailing_blanks (take end field) ≡ take end field
trim_none field end none = let e : end ≡ 0 = omega arith in rw e no_blanks

pub ruleset trimming = (trim_more, trim_end, trim_none)
