-- What a result says of the shelf: its counts, and the files that it was asked for.
use Rattle.std.specs.Prelude.{◌≡◌, ⊤, ℕ, ◌+◌, ◌<◌, ◌≤◌, max, List, [], ◌∷◌, length, IfSome}
use Rattle.std.specs.FinMap.{get}
use Rattle.base_defs.specs.Counts.{saturating_sum, Rose}
use Rattle.shelf_defs.specs.Copied.{most_bytes}
use Rattle.shelf_defs.specs.Questions.{FileAnswer, NoFile, OverLimit, Unanswered, Question, Fits, names_of}
use Rattle.shelf_defs.specs.Amounts.{AreTaken}
use Rattle.bench_shelf.specs.States.{ShelfState, asked_more}
use Rattle.bench_shelf.specs.declared.error.FileError.{FileError}
use Rattle.bench_shelf.specs.declared.error.FileError.TheVariants as unread
use Rattle.bench_shelf.specs.declared.copy_error.CopyCause.TheVariants.{Asm, Missing}
use Rattle.bench_shelf.specs.declared.copy_error.CopyError.{CopyError}
use Rattle.bench_shelf.specs.declared.copy_error.CopyError.TheVariants.{At, TooLarge, Fault, Memory}
use Rattle.bench_shelf.specs.CopyAnswers.{IsNoMemory}

-- a shelf after some calls: it has the same files, and none of its counts fell, but for the count of the file opened
-- last
pub record CountsGrew (before after : ShelfState) : Type 0 where
  pub files : after.files ≡ before.files
  pub faults : before.source.faults ≤ after.source.faults
  pub opens : before.opens ≤ after.opens
  pub misses : before.misses ≤ after.misses
  pub taken : before.source.taken ≤ after.source.taken
  pub calls : before.source.calls ≤ after.source.calls
  pub empty : before.source.empty ≤ after.source.empty
  pub largest : before.source.largest ≤ after.source.largest

-- of the file that was opened last more bytes were taken than these, and so of one file, and as many by these calls
pub record ReadOverLimit (limit : ℕ) (before after : ShelfState) : Type 0 where
  pub given : limit < after.source.given
  pub largest : after.source.given ≤ after.source.largest
  pub taken : saturating_sum before.source.taken (limit + 1) ≤ after.source.taken

-- of no file more bytes were taken than these, unless there were before
abbrev pub ReadWithinLimit : ℕ → ShelfState → ShelfState → Type 0
ReadWithinLimit limit before after = after.source.largest ≤ max before.source.largest limit

-- A missing name is counted, and so is a failure. A file is too large exactly where more bytes of one were taken than
-- it may have.
abbrev pub FileCauses : ℕ → FileError → ShelfState → ShelfState → Type 0
FileCauses limit (unread.Missing name) before after = Rose before.misses after.misses
    × ReadWithinLimit limit before after
FileCauses limit unread.TooLarge before after = ReadOverLimit limit before after
FileCauses limit unread.Fault before after =
    Rose before.source.faults after.source.faults × ReadWithinLimit limit before after
FileCauses limit unread.Memory before after = ReadWithinLimit limit before after

-- The same of what a line is refused for. No line is refused because memory ran out.
abbrev pub ShelfCauses : CopyError → ShelfState → ShelfState → Type 0
ShelfCauses (At file line (Missing name)) before after =
    Rose before.misses after.misses × ReadWithinLimit most_bytes before after
ShelfCauses (At file line cause) before after = IsNoMemory cause × ReadWithinLimit most_bytes before after
ShelfCauses TooLarge before after = ReadOverLimit most_bytes before after
ShelfCauses Fault before after =
    Rose before.source.faults after.source.faults × ReadWithinLimit most_bytes before after
ShelfCauses Memory before after = ReadWithinLimit most_bytes before after

-- the answer to a question for a file that was not read
abbrev pub answer_by : FileError → FileAnswer
answer_by (unread.Missing name) = NoFile
answer_by unread.TooLarge = OverLimit
answer_by unread.Fault = Unanswered
answer_by unread.Memory = Unanswered

-- a name that is missing is the one that was asked for
abbrev pub IsOfName : List ℕ → FileError → Type 0
IsOfName name (unread.Missing other) = other ≡ name
IsOfName name error = ⊤

-- an error that says nothing of a shelf: the assembler refuses a line, or memory ran out
abbrev pub IsOfLine : CopyError → Type 0
IsOfLine (At file line (Asm cause)) = IsNoMemory (Asm cause)
IsOfLine Memory = ⊤
IsOfLine error = ⊥

-- Files were asked for by these questions, one by one, each once. Of each as much was taken as its answer says, and no
-- more calls were made than bytes were taken and calls gave none. Where none was asked for, the shelf is as it was.
pub record ReadsOnce (limit : ℕ) (questions : List Question) (before after : ShelfState) : Type 0 where
  pub files : after.files ≡ before.files
  pub asked : after.asked ≡ asked_more before.asked (names_of questions)
  pub opens : after.opens ≡ saturating_sum before.opens (length questions)
  pub bytes : ℕ
  pub empty : ℕ
  pub amounts : AreTaken limit questions bytes empty
  pub taken : after.source.taken ≡ saturating_sum before.source.taken bytes
  pub ends : after.source.empty ≡ saturating_sum before.source.empty empty
  pub calls : after.source.calls ≤ saturating_sum before.source.calls (bytes + empty)
  pub none : questions ≡ [] → after ≡ before

-- The file of a name was asked for, and this is the answer. Where the shelf shows its files, it is the answer of the
-- file.
pub record AsksOne (limit : ℕ) (name : List ℕ) (answer : FileAnswer) (before after : ShelfState) : Type 0 where
  pub reads : ReadsOnce limit (record { name = name; answer = answer } ∷ []) before after
  pub fits : IfSome before.files (λ files. Fits limit answer (get files name))
