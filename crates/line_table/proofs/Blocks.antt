-- The lines of the source, in blocks.
use Rattle.std.proofs.Common.{◌≡◌, ℕ, ◌+◌, [], ◌∷◌}
use Rattle.std.specs.Prelude.{Ok, take, drop, slice_index_or, List}
use Rattle.source_defs.specs.Refusals.{map_ok}
use Rattle.asm_defs.specs.declared.location.Location.{Location}
use Rattle.line_laws.specs.KnownLines.{known_lines}
use Rattle.line_laws.specs.Laws.{looks}
use Rattle.native_interp.specs.Source.{lines}
use Rattle.line_table.specs.declared.line_row.LineRow.{LineRow}
use Rattle.line_table.specs.Table.{defined}
use Rattle.line_table.proofs.AllRows.{rows, location_of}
use Rattle.line_table.proofs.RowLines.{summary, expected}
use Rattle.line_table.proofs.Counts.{most}

abbrev pub texts : List (List ℕ)
texts = take most lines

-- no row
abbrev none : LineRow
none = record { place = 0; count = 0; words = 0 ∷ 0 ∷ 0 ∷ [] }

-- where a line stands, by its row
abbrev pub place : ℕ → Location
place number = location_of (slice_index_or rows number none)

-- Some lines from a number on are as their rows say: a number of lines, and a number of names after others.
abbrev pub Block : ℕ → ℕ → ℕ → ℕ → Type 0
Block first count named names =
    map_ok (summary (place first)) (known_lines (looks defined) (place first) (take count (drop first texts)))
    ≡ Ok (expected (take count (drop first rows)) (take names (drop named defined)) (place (first + count)))
