-- The lines of a text, one after the other: a step and the end.
use Rattle.std.proofs.Common.{◌≡◌, ℕ, zero, suc, ◌+◌, ◌-◌, ◌<◌, ◌≤◌, Bool, true, false, cond, List, [], ◌∷◌, length, get_or, drop, refl, arith}
use Rattle.std.specs.Prelude.{nat_lt}
use Rattle.std.proofs.lemmas.List.{drop_more}
use Rattle.std.proofs.lemmas.Bool.Decides.{nat_tests}
use Rattle.std.proofs.lemmas.Grind.{common_steps}
use Rattle.source_defs.specs.Least.{least_place}
use Rattle.source_defs.proofs.LeastLaws.{least_place_step, least_place_end, least_place-le}
use Rattle.source_defs.specs.Characters.{is_line_feed}
use Rattle.source_defs.specs.Lines.{line_feeds_from, without_return, lines_from, feed_place, after_feed}

past : (text : List ℕ) (at : ℕ) → length text ≤ at → drop at text ≡ []
past text at h = grind (arith, common_steps)

-- the line feeds from a place on: none, or the next and those after it
feeds_at : (n : ℕ) (text : List ℕ) (at : ℕ) → at + n ≡ length text → line_feeds_from at (drop at text) ≡ cond (nat_lt (feed_place text at) (length text)) (feed_place text at ∷ line_feeds_from (feed_place text at + 1) (drop (feed_place text at + 1) text)) []
feeds_at zero text at e =
    let end : least_place (λ k. is_line_feed (get_or text k 0)) text at ≡ at = least_place_end _ text at (omega arith) in
    let no : nat_lt at (length text) ≡ false = grind (arith, nat_tests) in
    let d : drop at text ≡ [] = past text at (omega arith) in
    rw (d, end, no) refl
feeds_at (suc n) text at e =
    let lt : at < length text = omega arith in
    let step = least_place_step (λ k. is_line_feed (get_or text k 0)) text at lt in
    let d : drop at text ≡ get_or text at 0 ∷ drop (at + 1) text = drop_more text at 0 lt in
    let ih = feeds_at n text (at + 1) (omega arith) in
    let inside : nat_lt at (length text) ≡ true = grind (arith, nat_tests) in
    rw (d, step) (at_test (is_line_feed (get_or text at 0)) text at inside ih)
  where
    at_test : (b : Bool) (text : List ℕ) (at : ℕ) → nat_lt at (length text) ≡ true
        → line_feeds_from (at + 1) (drop (at + 1) text) ≡ cond (nat_lt (feed_place text (at + 1)) (length text)) (feed_place text (at + 1) ∷ line_feeds_from (feed_place text (at + 1) + 1) (drop (feed_place text (at + 1) + 1) text)) []
        → cond b (at ∷ line_feeds_from (at + 1) (drop (at + 1) text)) (line_feeds_from (at + 1) (drop (at + 1) text))
        ≡ cond (nat_lt (cond b at (feed_place text (at + 1))) (length text)) (cond b at (feed_place text (at + 1)) ∷ line_feeds_from (cond b at (feed_place text (at + 1)) + 1) (drop (cond b at (feed_place text (at + 1)) + 1) text)) []
    at_test true text at inside ih = rw inside refl
    at_test false text at inside ih = ih

pub lines_from_end : (text : List ℕ) (number at : ℕ) → at ≡ length text → lines_from text number at (drop at text) ≡ []
unfolding lines_from
lines_from_end text number at e =
    let no : nat_lt at (length text) ≡ false = grind (arith, nat_tests) in
    let d : drop at text ≡ [] = past text at (omega arith) in
    rw (d, no) refl

step_by : (b : Bool) (text : List ℕ) (number at end : ℕ) → nat_lt end (length text) ≡ b → at < length text → end ≤ length text
    → line_feeds_from at (drop at text) ≡ cond b (end ∷ line_feeds_from (end + 1) (drop (end + 1) text)) []
    → lines_from text number at (drop at text) ≡ record { number = number; span = without_return text (at, end) } ∷ lines_from text (number + 1) (cond b (end + 1) end) (drop (cond b (end + 1) end) text)
unfolding lines_from
step_by true text number at end test lt le feeds =
    let inside : nat_lt at (length text) ≡ true = grind (arith, nat_tests) in
    rw (feeds, inside) refl
step_by false text number at end test lt le feeds =
    let inside : nat_lt at (length text) ≡ true = grind (arith, nat_tests) in
    let e : end ≡ length text = grind (arith, nat_tests) in
    let rest = lines_from_end text (number + 1) end e in
    rw (feeds, inside, rest, e) refl

pub lines_from_step : (text : List ℕ) (number at : ℕ) → at < length text → lines_from text number at (drop at text) ≡ record { number = number; span = without_return text (at, feed_place text at) } ∷ lines_from text (number + 1) (after_feed text (feed_place text at)) (drop (after_feed text (feed_place text at)) text)
lines_from_step text number at lt =
    step_by _ text number at (feed_place text at) refl lt (least_place-le _ text at (omega arith)) (feeds_at (length text - at) text at (omega arith))

pub ruleset line_steps = (lines_from_step, lines_from_end)
