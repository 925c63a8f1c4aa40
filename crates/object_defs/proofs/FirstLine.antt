-- The first of the lines that are left of a text.
use Rattle.std.proofs.Common.{◌≡◌, ℕ, ◌+◌, ◌-◌, ◌<◌, ◌≤◌, true, false, List, [], ◌∷◌, ◌++◌, length, get_or, drop, refl, sym, ap, ◌∙◌, subst, append_assoc}
use Rattle.std.proofs.Common.{length-append, arith}
use Rattle.std.specs.Prelude.{map, nat_lt, slice_range}
use Rattle.std.proofs.lemmas.Bool.Decides.{nat_tests}
use Rattle.std.proofs.lemmas.List.{get_or_at, take_at, drop_at}
use Rattle.source_defs.specs.Characters.{is_line_feed, is_carriage_return}
use Rattle.source_defs.specs.Lines.{lines_from, feed_place, part}
use Rattle.source_defs.proofs.LeastLaws.{least_place_step}
use Rattle.source_defs.proofs.LineSteps.{lines_from_step}
use Rattle.object_defs.specs.Modules.{is_name_character, all_name_characters}
use Rattle.object_defs.specs.Reading.{NumberedLine, numbered_line}
use Rattle.object_defs.proofs.Conjunctions.{and_left, and_right}

no_feed : (c : ℕ) → is_name_character c ≡ true → is_line_feed c ≡ false
no_feed c h = grind (arith, nat_tests)

no_return : (c : ℕ) → is_name_character c ≡ true → is_carriage_return c ≡ false
no_return c h = grind (arith, nat_tests)

some_left : (front rest : List ℕ) (c : ℕ) → length front < length (front ++ c ∷ rest)
some_left front rest c = omega (arith, length-append front (c ∷ rest))

-- the line feed after characters of which none is one
feed_after : (body front rest : List ℕ) → all_name_characters body ≡ true → feed_place (front ++ (body ++ 10 ∷ rest)) (length front) ≡ length front + length body
feed_after [] front rest h =
    let text = front ++ 10 ∷ rest in
    let here : get_or text (length front) 0 ≡ 10 = get_or_at front 10 rest 0 (length front) refl in
    let step = least_place_step (λ k. is_line_feed (get_or text k 0)) text (length front) (some_left front rest 10) in
    step ∙ (rw here (omega arith))
feed_after (c ∷ body) front rest h =
    let text = front ++ (c ∷ (body ++ 10 ∷ rest)) in
    let here : get_or text (length front) 0 ≡ c = get_or_at front c (body ++ 10 ∷ rest) 0 (length front) refl in
    let step = least_place_step (λ k. is_line_feed (get_or text k 0)) text (length front) (some_left front (body ++ 10 ∷ rest) c) in
    let other : is_line_feed c ≡ false = no_feed c (and_left (is_name_character c) (all_name_characters body) h) in
    let same : (front ++ c ∷ []) ++ (body ++ 10 ∷ rest) ≡ text = append_assoc front (c ∷ []) (body ++ 10 ∷ rest) in
    let size : length (front ++ c ∷ []) ≡ length front + 1 = length-append front (c ∷ []) in
    let next = feed_after body (front ++ c ∷ []) rest (and_right (is_name_character c) (all_name_characters body) h) in
    let there : feed_place text (length front + 1) ≡ length front + 1 + length body = subst (λ (t : List ℕ). feed_place t (length front + 1) ≡ length front + 1 + length body) same (subst (λ (n : ℕ). feed_place ((front ++ c ∷ []) ++ (body ++ 10 ∷ rest)) n ≡ n + length body) size next) in
    step ∙ (rw (here, other) (there ∙ omega arith))

-- the character before the line feed
last_is : (body front rest : List ℕ) (c : ℕ) → all_name_characters (body ++ c ∷ []) ≡ true → is_carriage_return (get_or (front ++ ((body ++ c ∷ []) ++ 10 ∷ rest)) (length front + length (body ++ c ∷ []) - 1) 0) ≡ false
last_is body front rest c h =
    let place : length front + length (body ++ c ∷ []) - 1 ≡ length (front ++ body) = omega (arith, length-append body (c ∷ []), length-append front body) in
    let same : front ++ ((body ++ c ∷ []) ++ 10 ∷ rest) ≡ (front ++ body) ++ c ∷ (10 ∷ rest) = ap (λ (xs : List ℕ). front ++ xs) (append_assoc body (c ∷ []) (10 ∷ rest)) ∙ sym (append_assoc front body (c ∷ (10 ∷ rest))) in
    let here : get_or ((front ++ body) ++ c ∷ (10 ∷ rest)) (length (front ++ body)) 0 ≡ c = get_or_at (front ++ body) c (10 ∷ rest) 0 (length (front ++ body)) refl in
    rw (place, same, here) (no_return c (last_character body h))
  where
    last_character : (xs : List ℕ) → all_name_characters (xs ++ c ∷ []) ≡ true → is_name_character c ≡ true
    last_character [] e = and_left (is_name_character c) true e
    last_character (x ∷ xs) e = last_character xs (and_right (is_name_character x) (all_name_characters (xs ++ c ∷ [])) e)

-- the lines that are left of a text, with their texts
abbrev pub left_lines : List ℕ → ℕ → ℕ → List NumberedLine
left_lines text number at = map (numbered_line text) (lines_from text number at (drop at text))

-- a line of characters that print goes up to its line feed
pub first_line : (front body rest : List ℕ) (last number : ℕ) → all_name_characters (body ++ last ∷ []) ≡ true
    → left_lines (front ++ ((body ++ last ∷ []) ++ 10 ∷ rest)) number (length front)
    ≡ record { number = number; text = body ++ last ∷ [] } ∷ left_lines (front ++ ((body ++ last ∷ []) ++ 10 ∷ rest)) (number + 1) (length (front ++ ((body ++ last ∷ []) ++ 10 ∷ [])))
first_line front body rest last number h =
    let line : List ℕ = body ++ last ∷ [] in
    let text : List ℕ = front ++ (line ++ 10 ∷ rest) in
    let at = length front in
    let feed : feed_place text at ≡ at + length line = feed_after line front rest h in
    let size : length text ≡ at + (length line + (1 + length rest)) = length-append front (line ++ 10 ∷ rest) ∙ ap (λ (n : ℕ). at + n) (length-append line (10 ∷ rest) ∙ omega arith) in
    let some : 1 ≤ length line = omega (arith, length-append body (last ∷ [])) in
    let inside : nat_lt (at + length line) (length text) ≡ true = grind (arith, nat_tests) in
    let long : nat_lt at (at + length line) ≡ true = grind (arith, nat_tests) in
    let no_cr : is_carriage_return (get_or text (at + length line - 1) 0) ≡ false = last_is body front rest last h in
    let step = lines_from_step text number at (omega arith) in
    let after : at + length line + 1 ≡ length (front ++ (line ++ 10 ∷ [])) = omega (arith, length-append front (line ++ 10 ∷ []), length-append line (10 ∷ [])) in
    let cut : part text (record { start = at; end = at + length line }) ≡ line = cut_line front line (10 ∷ rest) in
    ap (map (numbered_line text)) step ∙ rw (feed, inside, long, no_cr, cut, after) refl
  where
    cut_line : (a b c : List ℕ) → slice_range (a ++ (b ++ c)) (length a) (length a + length b) ≡ b
    cut_line a b c =
        let n : length a + length b - length a ≡ length b = omega arith in
        rw (n, drop_at a (b ++ c) (length a) refl, take_at b c (length b) refl) refl
