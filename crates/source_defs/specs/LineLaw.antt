-- What the lines of a text are, in the words of the rule.
use Rattle.std.specs.Prelude.{◌≡◌, ℕ, ◌+◌, ◌-◌, ◌<◌, ◌≤◌, ◌&&◌, if◌then◌else◌}
use Rattle.std.specs.Prelude.{List, [], ◌∷◌, ◌++◌, length, IsFalse}
use Rattle.std.specs.Prelude.{slice_index, map}
use Rattle.std.specs.List.{flat_map, range_with_len, AllByRecursion}
use Rattle.source_defs.specs.declared.text.Line.{Line}
use Rattle.source_defs.specs.Characters.{is_line_feed, is_carriage_return}
use Rattle.source_defs.specs.Lines.{IsInside, part, lines}

-- what the text has at a place to end a line: a line feed, one with a carriage return before it, or nothing
abbrev pub ending : List ℕ → ℕ → List ℕ
ending text at =
    if is_line_feed (slice_index text at) then 0x0A ∷ []
    else if is_carriage_return (slice_index text at) && is_line_feed (slice_index text (at + 1)) then 0x0D ∷ 0x0A ∷ []
    else []

-- a line holds no line feed, and no carriage return before the line feed that ends it; one that nothing ends goes
-- to the end of the text and is not empty
pub record IsLine (text : List ℕ) (line : Line) : Type 0 where
  pub inside : IsInside text line.span
  pub no_feed : (k : ℕ) → line.span.start ≤ k → k < line.span.end → IsFalse (is_line_feed (slice_index text k))
  pub no_return : ending text line.span.end ≡ 0x0A ∷ [] → line.span.start < line.span.end
      → IsFalse (is_carriage_return (slice_index text (line.span.end - 1)))
  pub last : ending text line.span.end ≡ [] → (line.span.end ≡ length text) × (line.span.start < line.span.end)

-- lines and their endings, one after the other, are the text; each is a line, and they count from 1
pub record AreLinesOf (text : List ℕ) (found : List Line) : Type 0 where
  pub joined : flat_map (λ line. part text line.span ++ ending text line.span.end) found ≡ text
  pub each : AllByRecursion (IsLine text) found
  pub numbered : map (λ line. line.number) found ≡ range_with_len 1 (length found)

-- the law, which is proved
abbrev pub LinesAreLines : Type 0
LinesAreLines = (text : List ℕ) → AreLinesOf text (lines text)
