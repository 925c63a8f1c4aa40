-- The report of a listing of an assembler source with the files that it copies.
use Rattle.std.specs.Prelude.{ℕ, List, Option, Some, None}
use Rattle.shelf_defs.specs.Copied.{CopyRefusal, At, TooLarge}
use Rattle.report_defs.specs.declared.fault.Fault.TheVariants as fault
use Rattle.report_defs.specs.declared.status.Status.TheVariants.{Done}
use Rattle.report_defs.specs.FaultLine.{fault_line}
use Rattle.report_defs.specs.FileLines.{place_line}
use Rattle.report_defs.specs.Report.{Report, Whole, RejectedAfter}
use Rattle.asm_list_defs.specs.Listed.{Listing}
use Rattle.asm_list_defs.specs.Rows.{listing_rows}

-- Profile: what is refused of a source has the fault line that `asm` has of it.
abbrev pub refusal_line : CopyRefusal → List ℕ
refusal_line (At place cause) = place_line place cause
refusal_line TooLarge = fault_line fault.TooLarge

-- Profile: a source that is refused is shown up to the refused line, and then by the fault line. Where a file that it
-- copies is too large, the lines before the COPY line of that file are shown, without what they place.
abbrev pub rows_report : List (List ℕ) → Option CopyRefusal → Report
rows_report rows None = Whole Done rows
rows_report rows (Some refusal) = RejectedAfter rows (refusal_line refusal)

abbrev pub list_report : Listing → Report
list_report found = rows_report (listing_rows found) found.refusal
