-- What `list` reports of a source with the files that it copies, and what was asked of their shelf.
--
-- A report is the one of the definitions by the answers of the shelf. Each refusal has its cause: a file is too large
-- exactly where more bytes of one were taken than it may have.
use Rattle.std.specs.Prelude.{◌≡◌, ◌⊎◌, ℕ, List, length, Option, Some, None, Result, Ok, Err}
use Rattle.asm_defs.specs.Locations.{Line}
use Rattle.shelf_defs.specs.Files.{Contents}
use Rattle.shelf_defs.specs.Copied.{CopyRefusal, Copied, most_bytes, copied_by}
use Rattle.shelf_defs.specs.Assembly.{layout_copied}
use Rattle.shelf_defs.specs.Questions.{Question, Agrees}
use Rattle.asm_list_defs.specs.Listed.{listing_of}
use Rattle.asm_list_defs.specs.Rows.{listing_rows}
use Rattle.bench_shelf.specs.States.{ShelfState}
use Rattle.bench_shelf.specs.Causes.{ReadOverLimit, ReadWithinLimit}
use Rattle.bench_shelf.specs.Dialogue.{CopyDialogue}
use Rattle.bench_shelf.specs.declared.copy_error.CopyError.{CopyError}
use Rattle.report_defs.specs.declared.status.Status.{Status}
use Rattle.report_defs.specs.declared.status.Status.TheVariants as status
use Rattle.report_defs.specs.Report.{Report}
use Rattle.debug_report_defs.specs.Listings.{rows_report}
use Rattle.file_commands.specs.Copying.{copy_refusal}
use Rattle.file_commands.specs.Reported.{CopyCauses, CopyFails}
use Rattle.reports.specs.Outputs.{Outputs}
use Rattle.reports.specs.Answers.{Reported, Ends}

-- The rows and the refusal are the ones of the listing of copied lines. Where no line is refused by the first checks,
-- as many files were copied as were asked for.
pub record GivesRows (asked : ℕ) (rows : List (List ℕ)) (refusal : Option CopyRefusal) (found : Copied) : Type 0 where
  pub rows_are : rows ≡ listing_rows (listing_of found)
  pub refusal_is : refusal ≡ (listing_of found).refusal
  pub copies : (lines : List Line) → layout_copied found ≡ Ok lines → asked ≡ found.copies

-- what a refusal says of the shelf, and what it says that there is none
abbrev pub RefusalCauses : Option CopyRefusal → ShelfState → ShelfState → Type 0
RefusalCauses None before after = ReadWithinLimit most_bytes before after
RefusalCauses (Some refusal) before after = CopyCauses (Err refusal) before after

-- The report of a source with the files that it copies, by the answers of the shelf, whatever else it would have
-- answered. Each file that is copied was asked for once, and no other.
pub record ListReported (before after : ShelfState) (source : List ℕ) (report : Report) : Type 0 where
  pub questions : List Question
  pub dialogue : CopyDialogue before after source questions
  pub rows : List (List ℕ)
  pub refusal : Option CopyRefusal
  pub gives : (contents : Contents) → Agrees most_bytes contents 0 questions
      → GivesRows (length questions) rows refusal (copied_by contents source)
  pub causes : RefusalCauses refusal before after
  pub is : report ≡ rows_report rows refusal

-- Of no file more bytes were taken than it may have, unless of the last one more, which then is too large.
abbrev pub ConsumedOfFiles : ShelfState → ShelfState → Type 0
ConsumedOfFiles before after = ReadWithinLimit most_bytes before after ⊎ ReadOverLimit most_bytes before after

-- Why nothing is reported of a source. Where memory ran out there is no cause: it may run out once a file was found too
-- large, while the rows of the lines before are made.
abbrev pub ListFails : ShelfState → ShelfState → List ℕ → Status → Type 0
ListFails before after source status.ReadFault = CopyFails before after source status.ReadFault
ListFails before after source status.Memory =
    (questions : List Question) × CopyDialogue before after source questions × ConsumedOfFiles before after
ListFails before after source other = ⊥

-- how `list` ends on a source that is not too large: its report was made, or there is none; and it was written
abbrev pub EndsListed : ShelfState → ShelfState → List ℕ → Outputs → Status → Type 0
EndsListed before after source o end =
    (answer : Result Report Status)
    × Reported (ListReported before after source) (ListFails before after source) answer × Ends o answer end

-- the refusal of the definitions, if there is one
abbrev pub refusal_by : Result CopyRefusal Status → Option CopyRefusal
refusal_by (Ok refusal) = Some refusal
refusal_by (Err end) = None

abbrev pub model_of_refusal : Option CopyError → Option CopyRefusal
model_of_refusal None = None
model_of_refusal (Some error) = refusal_by (copy_refusal error)
