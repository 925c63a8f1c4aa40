-- The listing of a GPL source.
use Rattle.std.specs.Prelude.{ℕ, ◌-◌, List, [], take, Result, Ok, Err}
use Rattle.source_defs.specs.Refusals.{Refusal}
use Rattle.source_defs.specs.Lines.{line_texts}
use Rattle.expression_defs.specs.Layout.{line_layout, assembled_lines}
use Rattle.gpl_source_defs.specs.declared.causes.GplCause.{GplCause}
use Rattle.gpl_source_defs.specs.Locations.{Line}
use Rattle.gpl_source_defs.specs.FirstChecks.{check, names}
use Rattle.gpl_source_defs.specs.Programs.{AssembledLine, assembled_line}
use Rattle.report_defs.specs.declared.status.Status.TheVariants.{Done}
use Rattle.report_defs.specs.SourceFaults.{gpl_line}
use Rattle.report_defs.specs.Report.{Report, Whole, RejectedAfter}
use Rattle.gpl_list_defs.specs.Rows.{Row, NameRow, no_bytes, placed_bytes, rows, name_rows, lines_before}
use Rattle.gpl_list_defs.specs.Text.{listing_lines}

-- what is listed of a source: its rows, its names, and the refusal of the line after the rows, if one is refused
pub record Listing : Type 0 where
  pub rows : List Row
  pub names : List NameRow
  pub refused : Result Unit (Refusal GplCause)

-- Of lines that the first checks accept. Profile: each has a row, and the names come after them; of a source that
-- the second checks refuse the lines before the refused one have rows, and no names stand.
abbrev pub assembled_listing : List (ℕ × List ℕ) → List Line → Result (List AssembledLine) (Refusal GplCause) → Listing
assembled_listing texts lines (Ok found) =
    record { rows = rows (placed_bytes (names lines)) texts lines; names = name_rows lines; refused = Ok tt }
assembled_listing texts lines (Err refused) =
    record {
      rows = rows (placed_bytes (names lines)) texts (lines_before refused.line lines);
      names = [];
      refused = Err refused;
    }

-- the lines that the first checks accept
abbrev pub accepted : Result (List Line) (Refusal GplCause) → List Line
accepted (Ok lines) = lines
accepted (Err refused) = []

-- Profile: where the first checks refuse a line, those before it have rows without bytes, since later names are not
-- known.
abbrev pub layout_listing : List (ℕ × List ℕ) → Result (List Line) (Refusal GplCause) → Listing
layout_listing texts (Ok lines) = assembled_listing texts lines (assembled_lines (assembled_line (names lines)) lines)
layout_listing texts (Err refused) =
    record {
      rows = rows no_bytes texts (accepted (line_layout check (take (refused.line - 1) texts)));
      names = [];
      refused = Err refused;
    }

-- the listing of a source
abbrev pub listing_of : List ℕ → Listing
listing_of source = layout_listing (line_texts source) (line_layout check (line_texts source))

-- what is reported of it: a refused line is reported after the lines before it
abbrev pub report_by : List (List ℕ) → Result Unit (Refusal GplCause) → Report
report_by lines (Ok done) = Whole Done lines
report_by lines (Err refused) = RejectedAfter lines (gpl_line refused)

abbrev pub listing_report : Listing → Report
listing_report listing = report_by (listing_lines listing.rows listing.names) listing.refused
