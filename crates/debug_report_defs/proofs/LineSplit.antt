-- The two parts of a line are found.
use Rattle.std.proofs.Common.{◌≡◌, ℕ, Bool, true, false, not, ◌&&◌, List, [], ◌∷◌, ◌++◌, refl, ap, arith}
use Rattle.std.specs.Prelude.{◌==◌, if◌then◌else◌}
use Rattle.std.specs.List.{list_all}
use Rattle.std.proofs.lemmas.Bool.Decides.{nat_tests}
use Rattle.listed_lines.proofs.Scans.{and_left, and_right}
use Rattle.debug_report_defs.specs.LineParts.{has_equals, ends_front, front_part, changes_part}

-- a byte of a front
abbrev pub in_front : ℕ → Bool
in_front byte = not (byte == 0x3D) && not (byte == 0x0A)

-- a byte of a word
abbrev pub in_word : ℕ → Bool
in_word byte = not (byte == 0x20)

abbrev starts : List ℕ → Bool
starts [] = false
starts (byte ∷ bytes) = ends_front byte bytes

-- the changes of a line, or its line feed
pub record Begins (text : List ℕ) : Type 0 where
  is_start : starts text ≡ true
  quiet : has_equals text ≡ false

no_equals : (byte : ℕ) (rest : Bool) → in_front byte ≡ true → rest ≡ false → (if byte == 0x3D then true else if byte == 0x20 then false else rest) ≡ false
no_equals byte rest e q = grind (arith, nat_tests)

not_ended : (byte : ℕ) (bytes : List ℕ) → in_front byte ≡ true → has_equals bytes ≡ false → ends_front byte bytes ≡ false
not_ended byte bytes e q = rw q (grind (arith, nat_tests))

quiet_more : (front text : List ℕ) → list_all in_front front ≡ true → has_equals text ≡ false → has_equals (front ++ text) ≡ false
quiet_more [] text e q = q
quiet_more (byte ∷ front) text e q =
    no_equals byte (has_equals (front ++ text)) (and_left (in_front byte) (list_all in_front front) e)
    (quiet_more front text (and_right (in_front byte) (list_all in_front front) e) q)

split_first : (text : List ℕ) → Begins text → (front_part text ≡ []) × (changes_part text ≡ text)
split_first [] b = absurd (let e = b.is_start in cc)
split_first (byte ∷ bytes) b = let e = b.is_start in (rw e refl, rw e refl)

-- a line is cut after its front
pub split : (front text : List ℕ) → list_all in_front front ≡ true → Begins text → (front_part (front ++ text) ≡ front) × (changes_part (front ++ text) ≡ text)
split [] text e b = split_first text b
split (byte ∷ front) text e b =
    let own = and_left (in_front byte) (list_all in_front front) e in
    let others = and_right (in_front byte) (list_all in_front front) e in
    let goes_on = not_ended byte (front ++ text) own (quiet_more front text others b.quiet) in
    let rest = split front text others b in
    (rw goes_on (ap (λ l. byte ∷ l) rest.0), rw goes_on rest.1)

-- the line feed
pub begins_feed : Begins (0x0A ∷ [])
begins_feed = record { is_start = refl; quiet = refl }

name_has : (name rest : List ℕ) → list_all in_word name ≡ true → has_equals (name ++ 0x3D ∷ rest) ≡ true
name_has [] rest e = refl
name_has (byte ∷ name) rest e =
    let own = and_left (in_word byte) (list_all in_word name) e in
    let others = name_has name rest (and_right (in_word byte) (list_all in_word name) e) in
    rw others (grind (arith, nat_tests))

-- a blank, a name and an equals sign
pub begins_name : (name rest : List ℕ) → list_all in_word name ≡ true → Begins (0x20 ∷ (name ++ 0x3D ∷ rest))
begins_name name rest e = record { is_start = name_has name rest e; quiet = refl }
