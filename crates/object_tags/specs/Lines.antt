-- What the writer has written, and what is to come.
use Rattle.std.specs.Prelude.{◌≡◌, ℕ, List, ◌++◌, map}
use Rattle.arrayvec.specs.ArrayVec.{ArrayVec}
use Rattle.object_defs.specs.Writing.{Item, Line, lines_from}
use Rattle.object_tags.specs.declared.writer.Writer.{Writer}

-- lines by their bytes
abbrev pub line_bytes : List (ArrayVec ℕ) → List (List ℕ)
line_bytes lines = map (λ line. line.items) lines

-- the line that is being written
abbrev pub line_of : Writer → Line
line_of writer = record { text = writer.line.items; next = writer.next }

-- all lines, where these items are still to be written
abbrev pub whole : Writer → List Item → List (List ℕ)
whole writer items = line_bytes writer.lines.items ++ lines_from writer.number (line_of writer) items

-- some items were written, whatever comes after them
abbrev pub Wrote : List Item → Writer → Writer → Type 0
Wrote front before after = (items : List Item) → whole before (front ++ items) ≡ whole after items
