-- Lines that are ended are the lines of their text.
use Rattle.std.proofs.Common.{◌≡◌, ℕ, ◌+◌, ◌-◌, ◌<◌, Bool, true, false, not, ◌&&◌, List, [], ◌∷◌, ◌++◌, length, get_or, append_assoc, length-append, refl, ap}
use Rattle.std.proofs.Common.{sym, subst, ◌∙◌, arith}
use Rattle.std.specs.Prelude.{map, nat_lt}
use Rattle.std.specs.List.{AllByRecursion}
use Rattle.std.proofs.lemmas.Bool.Decides.{nat_tests}
use Rattle.std.proofs.lemmas.List.{get_or-append-add}
use Rattle.std.proofs.Math.Seq.{drop-append_seam, take-append_seam, get_or-append_seam}
use Rattle.source_defs.specs.Characters.{is_line_feed}
use Rattle.source_defs.specs.Lines.{line_feeds_from, lines_from, without_return, part, numbered}
use Rattle.source_defs.specs.EndedLines.{IsOneLine, text_of, TextsHaveTheirLines}

both_of : (a b : Bool) → (not a && b) ≡ true → (a ≡ false) × (b ≡ true)
both_of false b h = (refl, h)
both_of true b h = cc h

-- the first line feed is the one that ends the line
feeds_after : (text rest : List ℕ) (at : ℕ) → IsOneLine text
    → line_feeds_from at (text ++ 13 ∷ 10 ∷ rest) ≡ (at + length text + 1) ∷ line_feeds_from (at + length text + 2) rest
feeds_after [] rest at one =
    let here : at + 0 + 1 ≡ at + 1 = omega arith in
    let next : at + 0 + 2 ≡ at + 1 + 1 = omega arith in
    rw (here, next) refl
feeds_after (byte ∷ bytes) rest at one =
    let found = both_of (is_line_feed byte) _ one in
    let ih = feeds_after bytes rest (at + 1) found.1 in
    let here : at + length (byte ∷ bytes) + 1 ≡ at + 1 + length bytes + 1 = omega arith in
    let next : at + length (byte ∷ bytes) + 2 ≡ at + 1 + length bytes + 2 = omega arith in
    rw (found.0, ih, here, next) refl

step_to : (text rest whole : List ℕ) (number at feed : ℕ) → nat_lt at (length whole) ≡ true
    → line_feeds_from at (text ++ 13 ∷ 10 ∷ rest) ≡ feed ∷ line_feeds_from (feed + 1) rest
    → lines_from whole number at (text ++ 13 ∷ 10 ∷ rest)
    ≡ record { number = number; span = without_return whole (at, feed) } ∷ lines_from whole (number + 1) (feed + 1) rest
unfolding lines_from
step_to text rest whole number at feed inside feeds = rw (feeds, inside) refl

lines_step : (text rest whole : List ℕ) (number at : ℕ) → IsOneLine text → at + length text + 1 < length whole
    → lines_from whole number at (text ++ 13 ∷ 10 ∷ rest)
    ≡ record { number = number; span = without_return whole (at, at + length text + 1) } ∷ lines_from whole (number + 1) (at + length text + 2) rest
lines_step text rest whole number at one lt =
    let inside : nat_lt at (length whole) ≡ true = grind (arith, nat_tests) in
    let next : at + length text + 1 + 1 ≡ at + length text + 2 = omega arith in
    subst (λ k. lines_from whole number at (text ++ 13 ∷ 10 ∷ rest)
    ≡ record { number = number; span = without_return whole (at, at + length text + 1) } ∷ lines_from whole (number + 1) k rest) next
    (step_to text rest whole number at (at + length text + 1) inside
    (feeds_after text rest at one ∙ ap (λ k. (at + length text + 1) ∷ line_feeds_from k rest) (sym next)))

-- the text after a front, and its first line
module _ (front text rest : List ℕ) where
  abbrev whole : List ℕ
  whole = front ++ (text ++ 13 ∷ 10 ∷ rest)

  feed_inside : length front + length text + 1 < length whole
  feed_inside = omega (arith, length-append front (text ++ 13 ∷ 10 ∷ rest), length-append text (13 ∷ 10 ∷ rest))

  return_there : get_or whole (length front + length text) 0 ≡ 13
  return_there = get_or-append-add front (text ++ 13 ∷ 10 ∷ rest) (length text) 0 ∙ get_or-append_seam text 13 (10 ∷ rest) 0

  span_of : without_return whole (length front, length front + length text + 1) ≡ record { start = length front; end = length front + length text }
  span_of =
      let lt = feed_inside in
      let inside : nat_lt (length front + length text + 1) (length whole) ≡ true = grind (arith, nat_tests) in
      let later : nat_lt (length front) (length front + length text + 1) ≡ true = grind (arith, nat_tests) in
      let back : length front + length text + 1 - 1 ≡ length front + length text = omega arith in
      rw (inside, later, back, return_there) refl

  part_of : part whole (record { start = length front; end = length front + length text }) ≡ text
  part_of =
      let size : length front + length text - length front ≡ length text = omega arith in
      rw (size, drop-append_seam front (text ++ 13 ∷ 10 ∷ rest)) (take-append_seam text (13 ∷ 10 ∷ rest))

-- the lines of a text from a place on, each with its number
abbrev lines_at : List ℕ → ℕ → ℕ → List ℕ → List (ℕ × List ℕ)
lines_at text number at bytes = map (λ line. (line.number, part text line.span)) (lines_from text number at bytes)

one_more : (front text rest : List ℕ) (number : ℕ) → IsOneLine text
    → lines_at (whole front text rest) number (length front) (text ++ 13 ∷ 10 ∷ rest)
    ≡ (number, text) ∷ lines_at (whole front text rest) (number + 1) (length front + length text + 2) rest
one_more front text rest number one =
    rw (lines_step text rest (whole front text rest) number (length front) one (feed_inside front text rest), span_of front text rest)
    (ap (λ found. (number, found) ∷ lines_at (whole front text rest) (number + 1) (length front + length text + 2) rest) (part_of front text rest))

none_left : (front : List ℕ) (number : ℕ) → lines_at (front ++ []) number (length front) [] ≡ []
unfolding lines_from
none_left front number =
    let same : length (front ++ []) ≡ length front + 0 = length-append front [] in
    let no : nat_lt (length front) (length (front ++ [])) ≡ false = grind (arith, nat_tests) in
    rw no refl

lines_after : (texts : List (List ℕ)) (front : List ℕ) (number : ℕ) → AllByRecursion IsOneLine texts
    → lines_at (front ++ text_of texts) number (length front) (text_of texts) ≡ numbered number texts
lines_after [] front number all = none_left front number
lines_after (text ∷ texts) front number all =
    let rest : List ℕ = text_of texts in
    let ended : List ℕ = text ++ 13 ∷ 10 ∷ [] in
    let body : text_of (text ∷ texts) ≡ text ++ 13 ∷ 10 ∷ rest = append_assoc text (13 ∷ 10 ∷ []) rest in
    let same : (front ++ ended) ++ rest ≡ whole front text rest = append_assoc front ended rest ∙ ap (λ xs. front ++ xs) body in
    let size : length (front ++ ended) ≡ length front + length text + 2 = omega (arith, length-append front ended, length-append text (13 ∷ 10 ∷ [])) in
    let ih = lines_after texts (front ++ ended) (number + 1) all.1 in
    let others : lines_at (whole front text rest) (number + 1) (length front + length text + 2) rest ≡ numbered (number + 1) texts =
    subst (λ at. lines_at (whole front text rest) (number + 1) at rest ≡ numbered (number + 1) texts) size
    (subst (λ xs. lines_at xs (number + 1) (length (front ++ ended)) rest ≡ numbered (number + 1) texts) same ih) in
    subst (λ xs. lines_at (front ++ xs) number (length front) xs ≡ numbered number (text ∷ texts)) (sym body)
    (one_more front text rest number all.0 ∙ ap (λ found. (number, text) ∷ found) others)

pub texts_have_their_lines : TextsHaveTheirLines
texts_have_their_lines texts all = lines_after texts [] 1 all
