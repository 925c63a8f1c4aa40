-- What copying some lines leads to.
use Rattle.std.specs.Prelude.{◌≡◌, ⊤, ℕ, ◌+◌, ◌-◌, ◌*◌, ◌^◌, ◌≤◌, List, [], ◌∷◌, ◌++◌, length}
use Rattle.std.specs.Prelude.{Option, Some, None, Result, Ok, Err, IfSome, ◌⊎◌}
use Rattle.shelf_defs.specs.Files.{Contents, of_files}
use Rattle.shelf_defs.specs.Copied as spec
use Rattle.shelf_defs.specs.Copied.{PlacedLine, Ending, Open, Ended, Refused, Copied, prepend, most_copies, most_bytes}
use Rattle.shelf_defs.specs.Assembly.{texts, places, layout_copied}
use Rattle.shelf_defs.specs.Questions.{FileAnswer, Bytes, Unanswered, Question, Agrees, InTurn, EndsWith}
use Rattle.source_defs.specs.Refusals.{Refusal}
use Rattle.source_defs.specs.Lines.{numbered}
use Rattle.expression_defs.specs.Layout.{line_layout}
use Rattle.asm_defs.specs.declared.causes.AsmCause.{AsmCause}
use Rattle.asm_defs.specs.FirstChecks.{check}
use Rattle.asm_core.specs.Building.{HasAccepted, IsOpen}
use Rattle.asm_core.specs.declared.lines.AsmLines.{AsmLines}
use Rattle.bench_shelf.specs.declared.copying.Copying.{Copying}
use Rattle.bench_shelf.specs.declared.copy_error.CopyError.{CopyError}
use Rattle.bench_shelf.specs.declared.copy_error.CopyError.TheVariants.{At, Fault, Memory}
use Rattle.bench_shelf.specs.declared.copy_error.CopyCause.TheVariants.{Missing}
use Rattle.asm_checks.specs.declared.failure.Failure.{Failure}
use Rattle.bench_shelf.specs.declared.place.Place.{Place}
use Rattle.bench_shelf.specs.CopyAnswers.{CopyRefuses, failed_at}
use Rattle.bench_shelf.specs.Runs.{places_of}
use Rattle.bench_shelf.specs.Kept.{IsKept}
use Rattle.bench_shelf.specs.States.{ShelfState}
use Rattle.bench_shelf.specs.Causes.{ReadsOnce}

-- these lines were taken, and their places are kept; so are the lines, where they are kept
pub record Holds (done : List PlacedLine) (state : Copying) : Type 0 where
  pub taken : HasAccepted (texts done) state.builder
  pub places : places_of state.runs.items ≡ places done
  pub kept : IsKept done taken.lines state.kept

-- whether a line ended the source
abbrev pub EndsAs : Ending → AsmLines → Type 0
EndsAs Open builder = IsOpen builder
EndsAs Ended builder = IsOpen builder → ⊥
EndsAs (Refused refusal) builder = ⊥

-- the copied lines were taken after others
pub record GoesOn (done : List PlacedLine) (found : Copied) (new : Copying) : Type 0 where
  pub holds : Holds (done ++ found.lines) new
  pub copies : new.copies ≡ found.copies
  pub ending : EndsAs found.ending new.builder

-- why an answer is no Ok
abbrev pub error_in : {A : Type 0} → Result A CopyError → Option CopyError
error_in (Ok value) = None
error_in (Err error) = Some error

-- the same of a line at a place
abbrev pub error_at : {A : Type 0} → Place → Result A Failure → Option CopyError
error_at place (Ok value) = None
error_at place (Err failure) = Some (failed_at place failure)

-- what comes after lines is refused
abbrev pub IsRefusal : Ending → Type 0
IsRefusal (Refused refusal) = ⊤
IsRefusal other = ⊥

-- the first checks refuse the next of some lines after those that were taken
pub record RefusesNext (all taken : List PlacedLine) : Type 0 where
  pub line : PlacedLine
  pub rest : List PlacedLine
  pub are : all ≡ taken ++ line ∷ rest
  pub refusal : Refusal AsmCause
  pub number : refusal.line ≡ 1 + length taken
  pub is : line_layout check (numbered 1 (texts (taken ++ line ∷ []))) ≡ Err refusal

-- the lines that were taken are all up to the refusal: of what comes after them, or of the next line
abbrev pub Halts : List PlacedLine → Ending → List PlacedLine → Type 0
Halts all ending taken = ((all ≡ taken) × IsRefusal ending) ⊎ RefusesNext all taken

-- the lines up to a refusal were taken, and no others
pub record Stopped (done : List PlacedLine) (found : Copied) (new : Copying) : Type 0 where
  pub taken : List PlacedLine
  pub holds : Holds taken new
  pub halts : Halts (done ++ found.lines) found.ending taken

-- of an error that the definitions give
abbrev pub IfReported : CopyError → Type 0 → Type 0
IfReported Fault P = ⊤
IfReported Memory P = ⊤
IfReported other P = P

-- they were taken, or one of all lines is refused, and those before it were taken
abbrev pub LeadsTo : Option CopyError → List PlacedLine → Copied → Copying → Type 0
LeadsTo None done found new = GoesOn done found new
LeadsTo (Some error) done found new =
    CopyRefuses error (layout_copied (prepend done found)) × IfReported error (Stopped done found new)

-- the same, whatever lines were taken before
abbrev pub CopiesTo : Copying → Copied → Option CopyError → Copying → Type 0
CopiesTo old found error new = (done : List PlacedLine) → Holds done old → LeadsTo error done found new

-- After the lines that were taken and these answers this file is the next: if no file had the name, that would be the
-- refusal.
abbrev pub IsNextAfter : Copying → (Contents → Copied) → List Question → Question → Type 0
IsNextAfter old found front question =
    (place : spec.Place) × ((contents : Contents) → Agrees most_bytes contents old.copies front
    → contents (old.copies + length front) question.name ≡ None
    → (last : Copying) × CopiesTo old (found contents) (Some (At place.file place.line (Missing question.name))) last)

-- A file was asked for by each COPY line that may be followed, in their order, and no other. Where the shelf shows its
-- files, the answers are those of the files.
pub record Asking (old new : Copying) (found : Contents → Copied) (questions : List Question)
    (before after : ShelfState) : Type 0 where
  pub number : new.copies ≡ old.copies + length questions
  pub turns : InTurn (IsNextAfter old found) [] questions
  pub files : IfSome before.files (λ files. Agrees most_bytes (of_files files) 0 questions)
  pub reads : ReadsOnce most_bytes questions before after

abbrev pub IsGiven : FileAnswer → Type 0
IsGiven (Bytes bytes) = ⊤
IsGiven other = ⊥

abbrev pub AllGiven : List Question → Type 0
AllGiven [] = ⊤
AllGiven (question ∷ questions) = IsGiven question.answer × AllGiven questions

-- where all lines were taken, each file was given; the shelf fails at the file that was asked for last
abbrev pub EndsBy : Option CopyError → List Question → Type 0
EndsBy None questions = AllGiven questions
EndsBy (Some Fault) questions = EndsWith Unanswered questions
EndsBy (Some other) questions = ⊤

-- There are questions and answers such that lines lead by these answers to what they led to, whatever else the shelf
-- would have answered.
pub record Copies (old new : Copying) (found : Contents → Copied) (error : Option CopyError)
    (before after : ShelfState) : Type 0 where
  pub questions : List Question
  pub asking : Asking old new found questions before after
  pub ends : EndsBy error questions
  pub leads : (contents : Contents) → Agrees most_bytes contents old.copies questions
      → CopiesTo old (found contents) error new

-- how many lines were taken
abbrev pub count : Copying → ℕ
count state = length (places_of state.runs.items)

-- the places of the lines that were taken are kept
abbrev pub IsHeld : Copying → Type 0
IsHeld state = (done : List PlacedLine) × Holds done state

-- a number of further lines can be counted, and the lines of the files that may still be copied
pub record HasRoom (lines : ℕ) (state : Copying) : Type 0 where
  pub held : IsHeld state
  pub copies : state.copies ≤ most_copies
  pub room : count state + lines + most_bytes * most_copies ≤ 2 ^ 32 - 2 + most_bytes * state.copies

-- no more lines were taken than these and the lines of the files that were copied
pub record Grows (lines : ℕ) (old new : Copying) : Type 0 where
  pub held : IsHeld new
  pub copies : old.copies ≤ new.copies
  pub few : count new + most_bytes * old.copies ≤ count old + lines + most_bytes * new.copies
