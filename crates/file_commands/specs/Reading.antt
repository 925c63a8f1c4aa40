-- What is read of files.
use Rattle.std.specs.Prelude.{◌≡◌, ⊤, ℕ, List, length, map, Result, Ok, Err}
use Rattle.shelf_defs.specs.Files.{Contents}
use Rattle.shelf_defs.specs.Questions.{NoFile, OverLimit, Unanswered, Question, Agrees, EndsWith, IsNextOf}
use Rattle.shelf_defs.specs.Questions.{names_of}
use Rattle.bench_shelf.specs.declared.error.FileError.{FileError}
use Rattle.bench_shelf.specs.declared.error.FileError.TheVariants.{Missing, TooLarge, Fault, Memory}
use Rattle.bench_shelf.specs.States.{ShelfState}
use Rattle.bench_shelf.specs.Dialogue.{Dialogue}
use Rattle.report_defs.specs.declared.status.Status.{Status}
use Rattle.report_defs.specs.declared.status.Status.TheVariants as status
use Rattle.report_defs.specs.Report.{largest_input}
use Rattle.report_defs.specs.LinkedFiles as spec
use Rattle.report_defs.specs.LinkedFiles.{FilesRefusal, read_by}
use Rattle.file_commands.specs.declared.file_text.FileText.{FileText}

-- a file with its name
abbrev pub model_of_text : FileText → List ℕ × List ℕ
model_of_text text = (text.name, text.bytes.items)

abbrev pub model_of_texts : List FileText → List (List ℕ × List ℕ)
model_of_texts texts = map model_of_text texts

abbrev pub Refuses : {B : Type 0} → FileError → Result B FilesRefusal → Type 0
Refuses (Missing name) defined = defined ≡ Err (spec.Missing name)
Refuses TooLarge defined = defined ≡ Err spec.TooLarge
Refuses other defined = ⊤

-- what is read is what is defined; of a shelf that failed and of a lack of memory the definitions say nothing
abbrev pub Gives : {A B : Type 0} → (A → B) → Result A FileError → Result B FilesRefusal → Type 0
Gives see (Ok value) defined = defined ≡ Ok (see value)
Gives see (Err error) defined = Refuses error defined

-- a shelf was asked for files by their names, in the order of the names
abbrev pub LinkDialogue : ShelfState → ShelfState → List (List ℕ) → List Question → Type 0
LinkDialogue before after names questions =
    Dialogue largest_input (length names) (IsNextOf names) before after questions

-- the last that was asked for is a missing name
abbrev pub EndsMissing : List ℕ → List Question → Type 0
EndsMissing name questions = (ends : EndsWith NoFile questions) × (ends.last.name ≡ name)

-- where the reading ends: after all names, or at the file that was asked for last
abbrev pub EndsReading : {A : Type 0} → List (List ℕ) → Result A FileError → List Question → Type 0
EndsReading names (Ok texts) questions = names_of questions ≡ names
EndsReading names (Err (Missing name)) questions = EndsMissing name questions
EndsReading names (Err TooLarge) questions = EndsWith OverLimit questions
EndsReading names (Err Fault) questions = EndsWith Unanswered questions
EndsReading names (Err Memory) questions = ⊤

-- Files were read by their names. There are questions and answers such that the result is the one of the definitions by
-- these answers.
pub record Reads {A : Type 0} (see : A → List (List ℕ × List ℕ)) (names : List (List ℕ))
    (result : Result A FileError) (before after : ShelfState) : Type 0 where
  pub questions : List Question
  pub dialogue : LinkDialogue before after names questions
  pub ends : EndsReading names result questions
  pub gives : (contents : Contents) → Agrees largest_input contents 0 questions
      → Gives see result (read_by contents 0 names)

-- the refusal of the definitions; a shelf that failed and a lack of memory have none
abbrev pub refusal_of : FileError → Result FilesRefusal Status
refusal_of (Missing name) = Ok (spec.Missing name)
refusal_of TooLarge = Ok spec.TooLarge
refusal_of Fault = Err status.ReadFault
refusal_of Memory = Err status.Memory
