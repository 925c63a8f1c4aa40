-- The lines of a text are lines in the words of the rule.
use Rattle.std.proofs.Common.{◌≡◌, ℕ, zero, suc, ◌+◌, ◌-◌, ◌<◌, ◌≤◌, Bool, true, false, cond, ◌&&◌, List, [], ◌∷◌, ◌++◌, length, get_or, take, drop}
use Rattle.std.proofs.Common.{append_assoc, refl, ap, sym, ◌∙◌, arith}
use Rattle.std.specs.Prelude.{map, nat_lt}
use Rattle.std.specs.List.{flat_map, range_with_len, AllByRecursion}
use Rattle.std.proofs.lemmas.Bool.{ltb-true}
use Rattle.std.proofs.lemmas.Bool.Decides.{nat_tests}
use Rattle.std.proofs.lemmas.Grind.{common_steps}
use Rattle.std.proofs.lemmas.List.{drop_more, drop-drop, take-append-drop}
use Rattle.source_defs.specs.declared.text.Span.{Span}
use Rattle.source_defs.specs.declared.text.Line.{Line}
use Rattle.source_defs.specs.Characters.{is_line_feed, is_carriage_return}
use Rattle.source_defs.specs.Least.{IsLeastPlace}
use Rattle.source_defs.specs.Lines.{LinesLieInside, part, lines_from, lines, feed_place, after_feed, without_return}
use Rattle.source_defs.specs.LineLaw.{ending, IsLine, LinesAreLines}
use Rattle.source_defs.proofs.LeastLaws.{least_places_are_least}
use Rattle.source_defs.proofs.LineSteps.{lines_from_step, lines_from_end}

-- a place that ends a line that begins at a place
abbrev IsFeedPlace : List ℕ → ℕ → ℕ → Type 0
IsFeedPlace text at feed = IsLeastPlace (λ k. is_line_feed (get_or text k 0)) text at feed

feed_byte : (byte : ℕ) → is_line_feed byte ≡ true → byte ≡ 10
feed_byte byte h = grind (arith, nat_tests)

return_byte : (byte : ℕ) → is_carriage_return byte ≡ true → byte ≡ 13
return_byte byte h = grind (arith, nat_tests)

ending_feed : (text : List ℕ) (k : ℕ) → is_line_feed (get_or text k 0) ≡ true → ending text k ≡ 10 ∷ []
ending_feed text k feed = rw feed refl

ending_return : (text : List ℕ) (k : ℕ) → is_line_feed (get_or text k 0) ≡ false → is_carriage_return (get_or text k 0) ≡ true → is_line_feed (get_or text (k + 1) 0) ≡ true → ending text k ≡ 13 ∷ 10 ∷ []
ending_return text k no_feed ret feed = rw (no_feed, ret, feed) refl

ending_none : (text : List ℕ) (k : ℕ) → length text ≤ k → ending text k ≡ []
ending_none text k past = let none : get_or text k 0 ≡ 0 = grind (arith, common_steps) in rw none refl

-- a line and its ending, before what comes after them
join_one : (text : List ℕ) (at end next : ℕ) (mark : List ℕ) → at ≤ end → drop end text ≡ mark ++ drop next text
    → (take (end - at) (drop at text) ++ mark) ++ drop next text ≡ drop at text
join_one text at end next mark le e =
    let there : at + (end - at) ≡ end = omega arith in
    let rest : drop (end - at) (drop at text) ≡ mark ++ drop next text = drop-drop (end - at) at text ∙ (ap (λ k. drop k text) there ∙ e) in
    append_assoc (take (end - at) (drop at text)) mark (drop next text)
    ∙ (ap (λ xs. take (end - at) (drop at text) ++ xs) (sym rest) ∙ take-append-drop (end - at) (drop at text))

-- what one line gives
record LineGives (text : List ℕ) (at : ℕ) (line : Line) (next : ℕ) : Type 0 where
  is_line : IsLine text line
  joins : (part text line.span ++ ending text line.span.end) ++ drop next text ≡ drop at text

line_with_return : (text : List ℕ) (number at feed : ℕ) → IsFeedPlace text at feed → feed < length text → at < feed → is_carriage_return (get_or text (feed - 1) 0) ≡ true
    → LineGives text at (record { number = number; span = record { start = at; end = feed - 1 } }) (feed + 1)
line_with_return text number at feed least lt after ret =
    let no_feed : is_line_feed (get_or text (feed - 1) 0) ≡ false = least.none_before (feed - 1) (omega arith) (omega arith) in
    let next : feed - 1 + 1 ≡ feed = omega arith in
    let here : is_line_feed (get_or text (feed - 1 + 1) 0) ≡ true = rw next (least.passes lt) in
    let mark : ending text (feed - 1) ≡ 13 ∷ 10 ∷ [] = ending_return text (feed - 1) no_feed ret here in
    let first : drop (feed - 1) text ≡ get_or text (feed - 1) 0 ∷ drop (feed - 1 + 1) text = drop_more text (feed - 1) 0 (omega arith) in
    let second : drop feed text ≡ get_or text feed 0 ∷ drop (feed + 1) text = drop_more text feed 0 lt in
    let whole : drop (feed - 1) text ≡ 13 ∷ 10 ∷ drop (feed + 1) text = rw (first, next, second, return_byte _ ret, feed_byte _ (least.passes lt)) refl in
    record {
      is_line = record {
        inside = record { in_order = omega arith; in_text = omega arith };
        no_feed = λ k ge below. least.none_before k ge (omega arith);
        no_return = λ e below. (cc mark);
        last = λ e. (cc mark);
      };
      joins = rw mark (join_one text at (feed - 1) (feed + 1) (13 ∷ 10 ∷ []) (omega arith) whole);
    }

line_with_feed : (text : List ℕ) (number at feed : ℕ) → IsFeedPlace text at feed → feed < length text → (at < feed → is_carriage_return (get_or text (feed - 1) 0) ≡ false)
    → LineGives text at (record { number = number; span = record { start = at; end = feed } }) (feed + 1)
line_with_feed text number at feed least lt no_return =
    let mark : ending text feed ≡ 10 ∷ [] = ending_feed text feed (least.passes lt) in
    let first : drop feed text ≡ get_or text feed 0 ∷ drop (feed + 1) text = drop_more text feed 0 lt in
    let whole : drop feed text ≡ 10 ∷ drop (feed + 1) text = rw (first, feed_byte _ (least.passes lt)) refl in
    record {
      is_line = record {
        inside = record { in_order = least.not_before_start; in_text = least.not_after_end };
        no_feed = least.none_before;
        no_return = λ e below. no_return below;
        last = λ e. (cc mark);
      };
      joins = rw mark (join_one text at feed (feed + 1) (10 ∷ []) least.not_before_start whole);
    }

line_at_end : (text : List ℕ) (number at feed : ℕ) → IsFeedPlace text at feed → at < length text → length text ≤ feed
    → LineGives text at (record { number = number; span = record { start = at; end = feed } }) feed
line_at_end text number at feed least lt past =
    let mark : ending text feed ≡ [] = ending_none text feed past in
    record {
      is_line = record {
        inside = record { in_order = least.not_before_start; in_text = least.not_after_end };
        no_feed = least.none_before;
        no_return = λ e below. (cc mark);
        last = λ e. (omega arith, omega arith);
      };
      joins = rw mark (join_one text at feed feed [] least.not_before_start refl);
    }

line_gives : (b c d : Bool) (text : List ℕ) (number at feed : ℕ) → nat_lt feed (length text) ≡ b → nat_lt at feed ≡ c → is_carriage_return (get_or text (feed - 1) 0) ≡ d
    → IsFeedPlace text at feed → at < length text
    → LineGives text at (record { number = number; span = cond ((b && c) && d) (record { start = at; end = feed - 1 }) (record { start = at; end = feed }) }) (cond b (feed + 1) feed)
line_gives true true true text number at feed e f g least lt = line_with_return text number at feed least (ltb-true _ _ e) (ltb-true _ _ f) g
line_gives true true false text number at feed e f g least lt = line_with_feed text number at feed least (ltb-true _ _ e) (λ _. g)
line_gives true false d text number at feed e f g least lt = line_with_feed text number at feed least (ltb-true _ _ e) (λ below. absurd_below below f)
  where
    absurd_below : {P : Type 0} → at < feed → nat_lt at feed ≡ false → P
    absurd_below below f = let no : feed ≤ at = grind (arith, nat_tests) in absurd (omega arith)
line_gives false c d text number at feed e f g least lt =
    let past : length text ≤ feed = grind (arith, nat_tests) in line_at_end text number at feed least lt past

first_gives : (text : List ℕ) (number at : ℕ) → at < length text
    → LineGives text at (record { number = number; span = without_return text (at, feed_place text at) }) (after_feed text (feed_place text at))
first_gives text number at lt =
    line_gives _ _ _ text number at (feed_place text at) refl refl refl (least_places_are_least _ text at (omega arith)) lt

-- the law, from a place on
record Found (text : List ℕ) (number at : ℕ) (found : List Line) : Type 0 where
  joined : flat_map (λ line. part text line.span ++ ending text line.span.end) found ≡ drop at text
  each : AllByRecursion (IsLine text) found
  numbered : map (λ line. line.number) found ≡ range_with_len number (length found)

found_none : (text : List ℕ) (number at : ℕ) → at ≡ length text → Found text number at (lines_from text number at (drop at text))
found_none text number at e =
    let none : drop at text ≡ [] = grind (arith, common_steps) in
    rw (lines_from_end text number at e) (record { joined = sym none; each = tt; numbered = refl })

found_more : (text : List ℕ) (number at : ℕ) → at < length text
    → Found text (number + 1) (after_feed text (feed_place text at)) (lines_from text (number + 1) (after_feed text (feed_place text at)) (drop (after_feed text (feed_place text at)) text))
    → Found text number at (lines_from text number at (drop at text))
found_more text number at lt rest =
    let first = first_gives text number at lt in
    let span : Span = without_return text (at, feed_place text at) in
    rw (lines_from_step text number at lt) (record {
      joined = ap (λ xs. (part text span ++ ending text span.end) ++ xs) rest.joined ∙ first.joins;
      each = (first.is_line, rest.each);
      numbered = ap (λ ns. number ∷ ns) rest.numbered;
    })

after_bounds : (b : Bool) (text : List ℕ) (at feed : ℕ) → nat_lt feed (length text) ≡ b → IsFeedPlace text at feed → at < length text
    → (at + 1 ≤ cond b (feed + 1) feed) × (cond b (feed + 1) feed ≤ length text)
after_bounds true text at feed e least lt =
    let ge = least.not_before_start in let in_text : feed < length text = ltb-true _ _ e in (omega arith, omega arith)
after_bounds false text at feed e least lt =
    let le = least.not_after_end in let past : length text ≤ feed = grind (arith, nat_tests) in (omega arith, omega arith)

found_by_test : (b : Bool) (text : List ℕ) (number at : ℕ) → nat_lt at (length text) ≡ b → at ≤ length text
    → ((number' at' : ℕ) → at + 1 ≤ at' → at' ≤ length text → Found text number' at' (lines_from text number' at' (drop at' text)))
    → Found text number at (lines_from text number at (drop at text))
found_by_test true text number at e le rest =
    let lt : at < length text = ltb-true _ _ e in
    let bounds = after_bounds _ text at (feed_place text at) refl (least_places_are_least _ text at le) lt in
    found_more text number at lt (rest (number + 1) (after_feed text (feed_place text at)) bounds.0 bounds.1)
found_by_test false text number at e le rest =
    let past : length text ≤ at = grind (arith, nat_tests) in found_none text number at (omega arith)

found_from : (n : ℕ) (text : List ℕ) (number at : ℕ) → at ≤ length text → length text ≤ at + n → Found text number at (lines_from text number at (drop at text))
found_from zero text number at le h = found_none text number at (omega arith)
found_from (suc n) text number at le h =
    found_by_test _ text number at refl le (λ number' at' later le'. found_from n text number' at' le' (omega arith))

pub lines_are_lines : LinesAreLines
lines_are_lines text =
    let found = found_from (length text) text 1 0 (omega arith) (omega arith) in
    record { joined = found.joined; each = found.each; numbered = found.numbered }

inside_each : (text : List ℕ) (found : List Line) → AllByRecursion (IsLine text) found → LinesLieInside text found
inside_each text [] each = tt
inside_each text (line ∷ found) each = (each.0.inside, inside_each text found each.1)

pub lines_lie_inside : (text : List ℕ) → LinesLieInside text (lines_from text 1 0 text)
lines_lie_inside text = inside_each text (lines text) (lines_are_lines text).each

pub ruleset line_places = (lines_lie_inside, lines_are_lines)
