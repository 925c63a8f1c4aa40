-- All lines of the source are known by themselves.
use Rattle.std.proofs.Common.{◌≡◌, ℕ, ◌*◌, true, List, [], ◌∷◌, ◌++◌, Some, None, Ok, refl, sym, ap, subst, ◌∙◌}
use Rattle.std.specs.Prelude.{Option, take, map, codes}
use Rattle.expression_defs.specs.Expression.{Value}
use Rattle.expression_defs.specs.Symbols.{registers}
use Rattle.expression_defs.specs.Tokens.{token_at, tokens_from}
use Rattle.source_defs.specs.Fields.{in_quotes, fields}
use Rattle.source_defs.specs.Operands.{operands_from}
use Rattle.object_defs.specs.declared.spot.Spot.{Spot}
use Rattle.object_defs.specs.declared.spot.Spot.TheVariants as spot
use Rattle.asm_defs.specs.declared.location.Location.{Location}
use Rattle.asm_defs.specs.Locations.{start}
use Rattle.asm_defs.specs.Directives.{directive}
use Rattle.asm_defs.specs.Statements.{End, statement_in}
use Rattle.asm_defs.specs.FirstChecks.{moved, stays_at}
use Rattle.asm_defs.specs.SecondChecks.{Entry, outcome}
use Rattle.line_laws.specs.KnownLines.{KnownLine, known_line, known_lines, all_words, are_new, end_of}
use Rattle.line_laws.specs.Laws.{looks, AreKnown}
use Rattle.native_interp.specs.Source.{lines}
use Rattle.native_interp.specs.Words.{words}
use Rattle.native_interp.specs.declared.addresses.TheConstants.{GBOOT}
use Rattle.line_table.specs.declared.line_row.LineRow.{LineRow}
use Rattle.line_table.specs.Table.{defined}
use Rattle.line_table.proofs.AllRows.{rows}
use Rattle.line_table.proofs.RowLines.{Reads, row_shown, close_rows, close_shown, words_shown, shown_words}
use Rattle.line_table.proofs.Counts.{most, name_count}
use Rattle.line_table.proofs.Blocks.{texts, place}
use Rattle.line_table.proofs.Chain.{to_last}

-- the last line, by itself
abbrev pub last : List ℕ
last = codes "       END GBOOT"

abbrev pub ending : KnownLine
ending = record {
  at = place most;
  found = record { label = None; statement = End (Some (codes "GBOOT")); move = stays_at (place most) 0 };
  outcome = Entry (spot.Absolute GBOOT);
}

ends : known_line (looks defined) (place most) last ≡ Ok ending
unfolding token_at tokens_from in_quotes operands_from fields registers directive statement_in moved outcome
ends = refl

-- lines that are known by their rows
module _ (from : ℕ) (all : List (List ℕ)) (last : List ℕ) (entries names : List (List ℕ × Value)) (table : List LineRow) (first next : Location) (end : KnownLine) (entry : Spot) (front : Reads (looks entries) first all table names next) where
  line_known : first ≡ start → names ≡ entries → are_new registers entries ≡ true → close_rows from (map row_shown table) ≡ true → known_line (looks entries) next last ≡ Ok end
      → end.found.label ≡ None → ((text : Option (List ℕ)) × (end.found.statement ≡ End text)) → end.outcome ≡ Entry entry
      → AreKnown from all last entries front.lines end entry
  line_known begins named new close closing unnamed ends enters = record {
    known = subst (λ at. known_lines (looks entries) at all ≡ Ok front.lines) begins front.known;
    names = front.as_names ∙ named;
    plain = front.plain;
    new = new;
    close = close_shown from front.lines ∙ (ap (close_rows from) front.as_rows ∙ close);
    closing = ap (λ at. known_line (looks entries) at last) (sym (ap (λ at. end_of at front.lines) begins) ∙ front.leads) ∙ closing;
    unnamed = unnamed;
    ends = ends;
    enters = enters;
  }

  words_by : all_words front.lines ≡ words_shown (map row_shown table)
  words_by = shown_words front.lines ∙ ap words_shown front.as_rows

abbrev pub front_texts : List (List ℕ)
front_texts = take most texts

abbrev pub front_lines : List KnownLine
front_lines = to_last.lines

all_named : take name_count defined ≡ defined
all_named = refl

all_new : are_new registers defined ≡ true
unfolding registers
all_new = refl

all_close : close_rows (2 * 0x1000) (map row_shown (take most rows)) ≡ true
all_close = refl

pub are_known : AreKnown (2 * 0x1000) front_texts last defined front_lines ending (spot.Absolute GBOOT)
are_known =
    line_known (2 * 0x1000) front_texts last defined (take name_count defined) (take most rows) (place 0) (place most) ending (spot.Absolute GBOOT) to_last
    refl all_named all_new all_close ends refl (Some (codes "GBOOT"), refl) refl

table_words : words_shown (map row_shown (take most rows)) ≡ words
table_words = refl

pub words_are : all_words front_lines ≡ words
words_are =
    words_by (2 * 0x1000) front_texts last defined (take name_count defined) (take most rows) (place 0) (place most) ending (spot.Absolute GBOOT) to_last ∙ table_words

pub lines_are : front_texts ++ last ∷ [] ≡ lines
lines_are = refl
