-- Lines that are ended by line feeds are the lines of their text.
use Rattle.std.proofs.Common.{◌≡◌, ℕ, zero, suc, ◌+◌, ◌-◌, ◌<◌, Bool, true, false, List, [], ◌∷◌, ◌++◌, length}
use Rattle.std.proofs.Common.{get_or, append_assoc, length-append, refl, ap}
use Rattle.std.proofs.Common.{sym, subst, ◌∙◌, arith}
use Rattle.std.specs.Prelude.{map, nat_lt, nat_le}
use Rattle.std.specs.List.{AllByRecursion}
use Rattle.std.proofs.lemmas.Bool.Decides.{nat_tests}
use Rattle.std.proofs.lemmas.List.{get_or-append-add}
use Rattle.std.proofs.Math.Seq.{drop-append_seam, take-append_seam}
use Rattle.source_defs.specs.Characters.{is_line_feed, is_carriage_return}
use Rattle.source_defs.specs.Lines.{line_feeds_from, lines_from, without_return, part, numbered}
use Rattle.line_laws.specs.Texts.{IsWithoutControls, fed_text, FedTextsHaveTheirLines}
use Rattle.line_laws.proofs.Small.{both}

no_feed : (byte : ℕ) → nat_le 0x20 byte ≡ true → is_line_feed byte ≡ false
no_feed byte e = grind (arith, nat_tests, e)

no_return : (byte : ℕ) → nat_le 0x20 byte ≡ true → is_carriage_return byte ≡ false
no_return byte e = grind (arith, nat_tests, e)

-- the first line feed is the one that ends the line
feeds_after : (text rest : List ℕ) (at : ℕ) → IsWithoutControls text
    → line_feeds_from at (text ++ 10 ∷ rest) ≡ (at + length text) ∷ line_feeds_from (at + length text + 1) rest
feeds_after [] rest at one = let here : at + 0 ≡ at = omega arith in rw here refl
feeds_after (byte ∷ bytes) rest at one =
    let found = both (nat_le 0x20 byte) _ one in
    let ih = feeds_after bytes rest (at + 1) found.1 in
    let here : at + length (byte ∷ bytes) ≡ at + 1 + length bytes = omega arith in
    rw (no_feed byte found.0, ih, here) refl

step_to : (text rest whole : List ℕ) (number at feed : ℕ) → nat_lt at (length whole) ≡ true
    → line_feeds_from at (text ++ 10 ∷ rest) ≡ feed ∷ line_feeds_from (feed + 1) rest
    → lines_from whole number at (text ++ 10 ∷ rest)
    ≡ record { number = number; span = without_return whole (at, feed) } ∷ lines_from whole (number + 1) (feed + 1) rest
unfolding lines_from
step_to text rest whole number at feed inside feeds = rw (feeds, inside) refl

-- the last byte of a line is no carriage return
last_byte : (text rest : List ℕ) (at : ℕ) → IsWithoutControls text → at < length text → is_carriage_return (get_or (text ++ rest) at 0) ≡ false
last_byte [] rest at one lt = absurd (omega (arith, lt))
last_byte (byte ∷ bytes) rest zero one lt = no_return byte (both _ _ one).0
last_byte (byte ∷ bytes) rest (suc at) one lt = last_byte bytes rest at (both _ _ one).1 (omega (arith, lt))

-- the text after a front, and its first line
module _ (front text rest : List ℕ) (one : IsWithoutControls text) where
  abbrev whole : List ℕ
  whole = front ++ (text ++ 10 ∷ rest)

  feed_inside : length front + length text < length whole
  feed_inside = omega (arith, length-append front (text ++ 10 ∷ rest), length-append text (10 ∷ rest))

  no_return_there : 0 < length text → is_carriage_return (get_or whole (length front + length text - 1) 0) ≡ false
  no_return_there some =
      let place : length front + length text - 1 ≡ length front + (length text - 1) = omega (arith, some) in
      ap (λ at. is_carriage_return (get_or whole at 0)) place
      ∙ (ap is_carriage_return (get_or-append-add front (text ++ 10 ∷ rest) (length text - 1) 0)
      ∙ last_byte text (10 ∷ rest) (length text - 1) one (omega (arith, some)))

  span_by : (later : Bool) → nat_lt (length front) (length front + length text) ≡ later
      → without_return whole (length front, length front + length text) ≡ record { start = length front; end = length front + length text }
  span_by true later =
      let lt = feed_inside in
      let inside : nat_lt (length front + length text) (length whole) ≡ true = grind (arith, nat_tests) in
      let some : 0 < length text = grind (arith, nat_tests, later) in
      rw (inside, later, no_return_there some) refl
  span_by false later =
      let lt = feed_inside in
      let inside : nat_lt (length front + length text) (length whole) ≡ true = grind (arith, nat_tests) in
      rw (inside, later) refl

  span_of : without_return whole (length front, length front + length text) ≡ record { start = length front; end = length front + length text }
  span_of = span_by (nat_lt (length front) (length front + length text)) refl

  part_of : part whole (record { start = length front; end = length front + length text }) ≡ text
  part_of =
      let size : length front + length text - length front ≡ length text = omega arith in
      rw (size, drop-append_seam front (text ++ 10 ∷ rest)) (take-append_seam text (10 ∷ rest))

  lines_step : (number : ℕ) → lines_from whole number (length front) (text ++ 10 ∷ rest)
      ≡ record { number = number; span = without_return whole (length front, length front + length text) } ∷ lines_from whole (number + 1) (length front + length text + 1) rest
  lines_step number =
      let lt = feed_inside in
      let inside : nat_lt (length front) (length whole) ≡ true = grind (arith, nat_tests) in
      step_to text rest whole number (length front) (length front + length text) inside (feeds_after text rest (length front) one)

-- the lines of a text from a place on, each with its number
abbrev lines_at : List ℕ → ℕ → ℕ → List ℕ → List (ℕ × List ℕ)
lines_at text number at bytes = map (λ line. (line.number, part text line.span)) (lines_from text number at bytes)

one_more : (front text rest : List ℕ) (number : ℕ) → IsWithoutControls text
    → lines_at (front ++ (text ++ 10 ∷ rest)) number (length front) (text ++ 10 ∷ rest)
    ≡ (number, text) ∷ lines_at (front ++ (text ++ 10 ∷ rest)) (number + 1) (length front + length text + 1) rest
one_more front text rest number one =
    rw (lines_step front text rest one number, span_of front text rest one)
    (ap (λ found. (number, found) ∷ lines_at (front ++ (text ++ 10 ∷ rest)) (number + 1) (length front + length text + 1) rest) (part_of front text rest one))

none_left : (front : List ℕ) (number : ℕ) → lines_at (front ++ []) number (length front) [] ≡ []
unfolding lines_from
none_left front number =
    let same : length (front ++ []) ≡ length front + 0 = length-append front [] in
    let no : nat_lt (length front) (length (front ++ [])) ≡ false = grind (arith, nat_tests) in
    rw no refl

lines_after : (texts : List (List ℕ)) (front : List ℕ) (number : ℕ) → AllByRecursion IsWithoutControls texts
    → lines_at (front ++ fed_text texts) number (length front) (fed_text texts) ≡ numbered number texts
lines_after [] front number all = none_left front number
lines_after (text ∷ texts) front number all =
    let rest : List ℕ = fed_text texts in
    let ended : List ℕ = text ++ 10 ∷ [] in
    let body : fed_text (text ∷ texts) ≡ text ++ 10 ∷ rest = append_assoc text (10 ∷ []) rest in
    let same : (front ++ ended) ++ rest ≡ front ++ (text ++ 10 ∷ rest) = append_assoc front ended rest ∙ ap (λ xs. front ++ xs) body in
    let size : length (front ++ ended) ≡ length front + length text + 1 = omega (arith, length-append front ended, length-append text (10 ∷ [])) in
    let ih = lines_after texts (front ++ ended) (number + 1) all.1 in
    let others : lines_at (front ++ (text ++ 10 ∷ rest)) (number + 1) (length front + length text + 1) rest ≡ numbered (number + 1) texts =
    subst (λ at. lines_at (front ++ (text ++ 10 ∷ rest)) (number + 1) at rest ≡ numbered (number + 1) texts) size
    (subst (λ xs. lines_at xs (number + 1) (length (front ++ ended)) rest ≡ numbered (number + 1) texts) same ih) in
    subst (λ xs. lines_at (front ++ xs) number (length front) xs ≡ numbered number (text ∷ texts)) (sym body)
    (one_more front text rest number all.0 ∙ ap (λ found. (number, text) ∷ found) others)

pub fed_texts_have_their_lines : FedTextsHaveTheirLines
fed_texts_have_their_lines texts all = lines_after texts [] 1 all
