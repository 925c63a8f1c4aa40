-- Blocks, one after the other.
use Rattle.std.proofs.Common.{ℕ, ◌+◌, List, [], ◌++◌, refl, sym, subst}
use Rattle.std.specs.Prelude.{take, drop}
use Rattle.expression_defs.specs.Expression.{Value}
use Rattle.asm_defs.specs.declared.location.Location.{Location}
use Rattle.line_laws.specs.Laws.{looks}
use Rattle.line_table.specs.declared.line_row.LineRow.{LineRow}
use Rattle.line_table.specs.Table.{defined}
use Rattle.line_table.proofs.AllRows.{rows}
use Rattle.line_table.proofs.RowLines.{Reads, reads_of, join, take_on}
use Rattle.line_table.proofs.Blocks.{Block, texts, place}

-- a number of lines from the first on, with a number of names
abbrev pub Front : ℕ → ℕ → Type 0
Front count names = Reads (looks defined) (place 0) (take count texts) (take count rows) (take names defined) (place count)

module _ (all : List (List ℕ)) (table : List LineRow) (entries : List (List ℕ × Value)) (a b c : Location) where
  grown : (count more names others : ℕ) → Reads (looks defined) a (take count all) (take count table) (take names entries) b
      → Reads (looks defined) b (take more (drop count all)) (take more (drop count table)) (take others (drop names entries)) c
      → Reads (looks defined) a (take (count + more) all) (take (count + more) table) (take (names + others) entries) c
  grown count more names others front block =
      let both = join (looks defined) a b c _ _ _ _ _ _ front block in
      subst (λ texts. Reads (looks defined) a texts (take (count + more) table) (take (names + others) entries) c) (sym (take_on all count more))
      (subst (λ rows. Reads (looks defined) a (take count all ++ take more (drop count all)) rows (take (names + others) entries) c) (sym (take_on table count more))
      (subst (λ names. Reads (looks defined) a (take count all ++ take more (drop count all)) (take count table ++ take more (drop count table)) names c)
      (sym (take_on entries names others)) both))

pub with_block : (first count named names : ℕ) → Front first named → Block first count named names → Front (first + count) (named + names)
with_block first count named names front block =
    grown texts rows defined (place 0) (place first) (place (first + count)) first count named names front
    (reads_of (looks defined) (place first) (place (first + count)) (take count (drop first texts)) (take count (drop first rows)) (take names (drop named defined)) block)

pub none_yet : Front 0 0
none_yet = record { lines = []; known = refl; as_rows = refl; as_names = refl; plain = refl; leads = refl }
