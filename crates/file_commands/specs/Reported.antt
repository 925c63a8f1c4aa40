-- What is reported of files, and what was asked of their shelf.
--
-- A report is the one of the definitions by the answers of the shelf. Each refusal has its cause: a file is too large
-- exactly where more bytes of one were taken than it may have.
use Rattle.std.specs.Prelude.{◌≡◌, List, ℕ, length, OnOk, Result, Ok, Err}
use Rattle.base_defs.specs.Counts.{Rose}
use Rattle.source_defs.specs.Refusals.{◌>>=◌}
use Rattle.object_defs.specs.Modules.{Module}
use Rattle.shelf_defs.specs.Files.{Contents}
use Rattle.shelf_defs.specs.Copied as copied
use Rattle.shelf_defs.specs.Copied.{CopyRefusal, most_bytes, copied_by}
use Rattle.shelf_defs.specs.Assembly.{module_by}
use Rattle.shelf_defs.specs.Questions.{OverLimit, Unanswered, Question, Agrees, EndsWith, names_of}
use Rattle.bench_shelf.specs.States.{ShelfState}
use Rattle.bench_shelf.specs.CopyAnswers.{IsOwnCause}
use Rattle.bench_shelf.specs.Causes.{ReadOverLimit, ReadWithinLimit}
use Rattle.bench_shelf.specs.Dialogue.{CopyDialogue}
use Rattle.report_defs.specs.declared.status.Status.{Status}
use Rattle.report_defs.specs.declared.status.Status.TheVariants as status
use Rattle.report_defs.specs.Report.{Report, largest_input}
use Rattle.report_defs.specs.LinkedFiles.{FilesRefusal, Missing, TooLarge, InFile, Unlinked, read_by, linked_texts}
use Rattle.report_defs.specs.FileReports.{copy_report, files_report}
use Rattle.file_commands.specs.Reading.{LinkDialogue, EndsMissing}

-- the shelf failed at the file that was asked for last, and has counted it
pub record Failed (limit : ℕ) (before after : ShelfState) (questions : List Question) : Type 0 where
  pub ends : EndsWith Unanswered questions
  pub rose : Rose before.source.faults after.source.faults
  pub within : ReadWithinLimit limit before after

-- Why nothing is reported of a source. Where memory ran out there is no cause. Of no file more bytes were taken than it
-- may have.
abbrev pub CopyFails : ShelfState → ShelfState → List ℕ → Status → Type 0
CopyFails before after text status.ReadFault =
    (questions : List Question) × CopyDialogue before after text questions × Failed most_bytes before after questions
CopyFails before after text status.Memory =
    (questions : List Question) × CopyDialogue before after text questions × ReadWithinLimit most_bytes before after
CopyFails before after text other = ⊥

-- A name that is missing was counted, and a file is too large exactly where more bytes of one were taken than it may
-- have. No line is refused because memory ran out.
abbrev pub CopyCauses : Result Module CopyRefusal → ShelfState → ShelfState → Type 0
CopyCauses (Ok found) before after = ReadWithinLimit most_bytes before after
CopyCauses (Err (copied.At place (copied.Missing name))) before after =
    Rose before.misses after.misses × ReadWithinLimit most_bytes before after
CopyCauses (Err (copied.At place (copied.Asm cause))) before after =
    IsOwnCause cause × ReadWithinLimit most_bytes before after
CopyCauses (Err (copied.At place cause)) before after = ReadWithinLimit most_bytes before after
CopyCauses (Err copied.TooLarge) before after = ReadOverLimit most_bytes before after

-- The report of a source with the files that it copies, by the answers of the shelf, whatever else it would have
-- answered. Each file that is copied was asked for once, and no other.
pub record CopyReported (before after : ShelfState) (text : List ℕ) (report : Report) : Type 0 where
  pub questions : List Question
  pub dialogue : CopyDialogue before after text questions
  pub answer : Result Module CopyRefusal
  pub gives : (contents : Contents) → Agrees most_bytes contents 0 questions → answer ≡ module_by contents text
  pub opened : OnOk answer ((contents : Contents) → Agrees most_bytes contents 0 questions
      → length questions ≡ (copied_by contents text).copies)
  pub causes : CopyCauses answer before after
  pub is : report ≡ copy_report answer

-- What reading files leads to: all were read; or the last that was asked for is missing, or too large. Their texts are
-- not looked at before.
abbrev pub ReadCauses : List (List ℕ) → Result (List (List ℕ × List ℕ)) FilesRefusal → List Question → ShelfState
    → ShelfState → Type 0
ReadCauses names (Ok texts) questions before after =
    (names_of questions ≡ names) × ReadWithinLimit largest_input before after
ReadCauses names (Err (Missing name)) questions before after =
    EndsMissing name questions × Rose before.misses after.misses × ReadWithinLimit largest_input before after
ReadCauses names (Err TooLarge) questions before after =
    EndsWith OverLimit questions × ReadOverLimit largest_input before after
ReadCauses names (Err (InFile name refused)) questions before after = ⊥
ReadCauses names (Err (Unlinked cause)) questions before after = ⊥

-- The report of the linked memory of files, by the answers of the shelf, whatever else it would have answered.
pub record LinkReported (before after : ShelfState) (names : List (List ℕ)) (report : Report) : Type 0 where
  pub questions : List Question
  pub dialogue : LinkDialogue before after names questions
  pub texts : Result (List (List ℕ × List ℕ)) FilesRefusal
  pub gives : (contents : Contents) → Agrees largest_input contents 0 questions → texts ≡ read_by contents 0 names
  pub causes : ReadCauses names texts questions before after
  pub is : report ≡ files_report (texts >>= linked_texts)

-- why nothing is reported of files that are linked: likewise
abbrev pub LinkFails : List (List ℕ) → ShelfState → ShelfState → Status → Type 0
LinkFails names before after status.ReadFault =
    (questions : List Question) × LinkDialogue before after names questions
    × Failed largest_input before after questions
LinkFails names before after status.Memory =
    (questions : List Question) × LinkDialogue before after names questions
    × ReadWithinLimit largest_input before after
LinkFails names before after other = ⊥
