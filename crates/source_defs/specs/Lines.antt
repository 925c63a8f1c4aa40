-- The lines of a source text, by their places.
--
-- Profile: a line ends at a line feed, and a carriage return before it is dropped. What follows the last line
-- feed is a line where it is not empty; a carriage return at its end belongs to it. Lines count from 1.
use Rattle.std.specs.Prelude.{ℕ, ◌+◌, ◌-◌, ◌≤◌, ◌&&◌, nat_lt, if◌then◌else◌, List, [], ◌∷◌, ◌++◌, length, slice_index}
use Rattle.std.specs.Prelude.{slice_range, map, filter}
use Rattle.std.specs.List.{AllByRecursion, zip}
use Rattle.source_defs.specs.declared.text.Span.{Span}
use Rattle.source_defs.specs.declared.text.Line.{Line}
use Rattle.source_defs.specs.Characters.{is_line_feed, is_carriage_return}
use Rattle.source_defs.specs.Least.{least_place}

-- a part lies inside a text
pub record IsInside (text : List ℕ) (span : Span) : Type 0 where
  pub in_order : span.start ≤ span.end
  pub in_text : span.end ≤ length text

-- each of the lines lies inside the text
abbrev pub LinesLieInside : List ℕ → List Line → Type 0
LinesLieInside text lines = AllByRecursion (λ line. IsInside text line.span) lines

-- the bytes of a part of a text
abbrev pub part : List ℕ → Span → List ℕ
part text span = slice_range text span.start span.end

-- from a place on, the first line feed, or the text's end
abbrev pub feed_place : List ℕ → ℕ → ℕ
feed_place text from = least_place (λ k. is_line_feed (slice_index text k)) text from

-- the place where the next line begins, after a line that goes up to a line feed or the text's end
abbrev pub after_feed : List ℕ → ℕ → ℕ
after_feed text feed = if nat_lt feed (length text) then feed + 1 else feed

-- the places of the line feeds among bytes of which the first is at a place
abbrev pub line_feeds_from : ℕ → List ℕ → List ℕ
line_feeds_from at [] = []
line_feeds_from at (byte ∷ bytes) =
    if is_line_feed byte then at ∷ line_feeds_from (at + 1) bytes else line_feeds_from (at + 1) bytes

-- where each line begins and ends, with a carriage return: it begins where the text does or after a line feed,
-- and ends at the next line feed or where the text does
abbrev pub bounds_between : ℕ → List ℕ → ℕ → List (ℕ × ℕ)
bounds_between start feeds end = zip (start ∷ map (λ feed. feed + 1) feeds) (feeds ++ end ∷ [])

-- the line's part without the carriage return before its line feed
abbrev pub without_return : List ℕ → ℕ × ℕ → Span
without_return text bounds =
    if nat_lt bounds.1 (length text) && nat_lt bounds.0 bounds.1 && is_carriage_return (slice_index text (bounds.1 - 1))
    then record { start = bounds.0; end = bounds.1 - 1 }
    else record { start = bounds.0; end = bounds.1 }

-- the spans as lines that count from a number on
abbrev pub numbered_from : ℕ → List Span → List Line
numbered_from number [] = []
numbered_from number (span ∷ spans) = record { number = number; span = span } ∷ numbered_from (number + 1) spans

-- the lines from a place of a text on; only what begins before the text's end is a line
unfoldable pub lines_from : List ℕ → ℕ → ℕ → List ℕ → List Line
lines_from text number at bytes =
    let bounds = bounds_between at (line_feeds_from at bytes) (length text) in
    numbered_from number (map (without_return text) (filter (λ bounds. nat_lt bounds.0 (length text)) bounds))

-- the lines of a text, from its first byte on; the first has the number 1
abbrev pub lines : List ℕ → List Line
lines text = lines_from text 1 0 text

-- the texts of lines, each with its number from a number on
abbrev pub numbered : ℕ → List (List ℕ) → List (ℕ × List ℕ)
numbered number [] = []
numbered number (text ∷ texts) = (number, text) ∷ numbered (number + 1) texts

-- the lines of a source by their numbers
abbrev pub line_texts : List ℕ → List (ℕ × List ℕ)
line_texts source = map (λ line. (line.number, part source line.span)) (lines source)
