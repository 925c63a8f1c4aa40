-- Where the lines of a source are placed, for any assembler.
--
-- Profile: the first checks judge a line by the lines before it, of which the nearest comes first. The second
-- checks are made only where the first refuse no line, and see the names of all lines.
use Rattle.std.specs.Prelude.{ℕ, ◌+◌, if◌then◌else◌, Bool, false, ◌||◌, List, [], ◌∷◌, Option, Some, None, Result}
use Rattle.std.specs.Prelude.{Ok, is_some}
use Rattle.std.specs.FinMap.{insert}
use Rattle.source_defs.specs.Refusals.{Refusal, ◌>>=◌, at_line}
use Rattle.expression_defs.specs.Expression.{Value}
use Rattle.expression_defs.specs.Symbols.{Names}

-- What the first checks leave of a line: its number; the location that it sets, if it sets one; the bytes that are
-- left free before it, so that it is at an even place; its size; the names that it defines; what it says; and
-- whether the source ends with it.
pub record LayoutLine (P S : Type 0) : Type 0 where
  pub number : ℕ
  pub origin : Option P
  pub gap : ℕ
  pub size : ℕ
  pub names : List (List ℕ × Value)
  pub statement : S
  pub last : Bool

-- the location that a line sets, or the one that stands
abbrev pub set_or : {P : Type 0} → Option P → P → P
set_or (Some origin) before = origin
set_or None before = before

-- the lines from the last origin line on, the nearest first
abbrev pub since_origin : {P S : Type 0} → List (LayoutLine P S) → List (LayoutLine P S)
since_origin [] = []
since_origin (line ∷ before) = line ∷ (if is_some line.origin then [] else since_origin before)

-- the bytes that lines take, with those that are left free before them
abbrev pub bytes_taken : {P S : Type 0} → List (LayoutLine P S) → ℕ
bytes_taken [] = 0
bytes_taken (line ∷ before) = bytes_taken before + (line.gap + line.size)

-- lines by the location at which their source starts, and the location some bytes after one
module _ {P S : Type 0} (start : P) (after : P → ℕ → P) where
  -- the location that the last origin line sets
  abbrev pub origin : List (LayoutLine P S) → P
  origin [] = start
  origin (line ∷ before) = set_or line.origin (origin before)

  -- The location after the lines: the last origin, and the sizes of the lines from it on.
  abbrev pub location : List (LayoutLine P S) → P
  location before = after (origin before) (bytes_taken (since_origin before))

  -- the place of a line after others
  abbrev pub place : List (LayoutLine P S) → LayoutLine P S → P
  place before line = after (location before) line.gap

-- names with some more
abbrev pub with_names : Names → List (List ℕ × Value) → Names
with_names names [] = names
with_names names (entry ∷ entries) = with_names (insert names entry.0 entry.1) entries

-- the names of the lines, beside those that stand for something from the start
abbrev pub names_of : {P S : Type 0} → Names → List (LayoutLine P S) → Names
names_of predefined [] = predefined
names_of predefined (line ∷ before) = with_names (names_of predefined before) line.names

-- lines by the first checks, which see the lines before, the number of a line and its text
module _ {P S C : Type 0} (check : List (LayoutLine P S) → ℕ → List ℕ → Result (LayoutLine P S) C) where
  -- Lines after others, or the first that the checks refuse. Profile: lines after the one that ends the source are not
  -- read.
  abbrev pub layout_after : List (LayoutLine P S) → List (ℕ × List ℕ) → Result (List (LayoutLine P S)) (Refusal C)
  layout_after before [] = Ok before
  layout_after before (line ∷ lines) = do
    found ← at_line line.0 (check before line.0 line.1)
    if found.last then Ok (found ∷ before) else layout_after (found ∷ before) lines

  -- the lines of a source, or the first that is refused
  abbrev pub line_layout : List (ℕ × List ℕ) → Result (List (LayoutLine P S)) (Refusal C)
  line_layout lines = layout_after [] lines

-- lines by the second checks, which see the outcomes of the lines before, those lines, and the line
module _ {P S A C : Type 0} (assembled_line : List (LayoutLine P S) → List A → LayoutLine P S → Result A C) where
  -- the outcomes of the lines, or the first that the checks refuse
  abbrev pub assembled_lines : List (LayoutLine P S) → Result (List A) (Refusal C)
  assembled_lines [] = Ok []
  assembled_lines (line ∷ before) = do
    earlier ← assembled_lines before
    found ← at_line line.number (assembled_line before earlier line)
    Ok (found ∷ earlier)

-- one of the lines ends the source
abbrev pub has_ended : {P S : Type 0} → List (LayoutLine P S) → Bool
has_ended [] = false
has_ended (line ∷ before) = line.last || has_ended before
