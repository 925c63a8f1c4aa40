-- The lines of a source with the files that it copies, as a listing needs them, by the answers of a shelf.
use Rattle.std.specs.Prelude.{◌≡◌, ⊤, ℕ, ◌-◌, List, [], length, map, take, Option, Some, None, Result, Ok, Err, IfOk}
use Rattle.std.specs.List.{flat_map}
use Rattle.std.proofs.Common.{Vec, Global}
use Rattle.expression_defs.specs.Symbols.{Names}
use Rattle.expression_defs.specs.Layout.{assembled_lines}
use Rattle.asm_defs.specs.declared.causes.AsmCause.{AsmCause}
use Rattle.asm_defs.specs.Locations.{Line}
use Rattle.asm_defs.specs.FirstChecks.{names}
use Rattle.asm_defs.specs.Memory.{AssembledLine}
use Rattle.asm_defs.specs.Modules.{assembled_line}
use Rattle.shelf_defs.specs.Files.{Contents}
use Rattle.shelf_defs.specs.Copied.{PlacedLine, CopyRefusal, Copied, most_bytes, copied_by}
use Rattle.shelf_defs.specs.Assembly.{places, place_of, layout_copied}
use Rattle.shelf_defs.specs.Questions.{Unanswered, Question, Agrees, EndsWith}
use Rattle.asm_list_defs.specs.Listed.{Shown, ListedName, names_of_line, listing_of}
use Rattle.bench_shelf.specs.States.{ShelfState}
use Rattle.bench_shelf.specs.declared.copy_error.CopyError.{CopyError}
use Rattle.bench_shelf.specs.declared.copy_error.CopyError.TheVariants.{Fault, Memory}
use Rattle.bench_shelf.specs.declared.kept_line.KeptLine.{KeptLine}
use Rattle.bench_shelf.specs.declared.listed.ListedEnding.{ListedEnding}
use Rattle.bench_shelf.specs.declared.listed.ListedEnding.TheVariants.{Whole, After, Before}
use Rattle.bench_shelf.specs.declared.listed.ListedSource.{ListedSource}
use Rattle.bench_shelf.specs.declared.place.Place.{Place}
use Rattle.bench_shelf.specs.declared.copy_error.CopyCause.TheVariants.{Asm}
use Rattle.bench_shelf.specs.CopyAnswers.{CopyRefuses, IsOwnCause, model_of_place, refused_at}
use Rattle.bench_shelf.specs.Causes.{ShelfCauses, ReadWithinLimit}
use Rattle.bench_shelf.specs.Dialogue.{CopyDialogue}
use Rattle.bench_shelf.specs.Kept.{model_of_kept, shown_of, names_of, AreKept}

-- the definitions say nothing of a shelf that failed and of a lack of memory
abbrev pub GivesNoReport : CopyError → Type 0
GivesNoReport Fault = ⊤
GivesNoReport Memory = ⊤
GivesNoReport other = ⊥

abbrev pub GivesReport : CopyError → Type 0
GivesReport Fault = ⊥
GivesReport Memory = ⊥
GivesReport other = ⊤

-- the answer of the second checks
abbrev pub AssembledAs : List Line → ℕ → AsmCause → Type 0
AssembledAs lines number cause =
    assembled_lines (assembled_line (names lines)) lines ≡ Err (record { line = number; cause = cause })

abbrev pub AllAssembled : List Line → Type 0
AllAssembled lines = (found : List AssembledLine) × (assembled_lines (assembled_line (names lines)) lines ≡ Ok found)

-- a line is refused by them, by its number among the lines that were taken, at its place
pub record RefusedAfter (done : List PlacedLine) (lines : List Line) (number : ℕ) (error : CopyError) : Type 0 where
  pub at : Place
  pub cause : AsmCause
  pub is : error ≡ refused_at at (Asm cause)
  pub own : IsOwnCause cause
  pub assembled_lines : AssembledAs lines number cause
  pub place : model_of_place at ≡ place_of (places done) number

-- what the second checks make of lines that were taken
abbrev pub FinishesBy : List PlacedLine → List Line → ListedEnding → Type 0
FinishesBy done lines (Whole known) = (known ≡ names lines) × AllAssembled lines
FinishesBy done lines (After known number error) = (known ≡ names lines) × RefusedAfter done lines number error
FinishesBy done lines (Before error) = ⊥

abbrev pub Finishes : List PlacedLine → List Line → Result ListedSource CopyError → Type 0
Finishes done lines (Ok listed) = AreKept done lines listed.lines.items × FinishesBy done lines listed.ending
Finishes done lines (Err error) = error ≡ Memory

-- the lines that were taken before an error
abbrev pub StopsAt : Option (Vec KeptLine Global) → CopyError → Result ListedSource CopyError → Type 0
StopsAt kept error (Ok listed) = (kept ≡ Some listed.lines) × (listed.ending ≡ Before error) × GivesReport error
StopsAt kept error (Err found) = (found ≡ error) × GivesNoReport error

-- a kept line with what is shown of it
abbrev pub listed_line : Option Names → KeptLine → PlacedLine × Shown
listed_line known kept = (model_of_kept kept, shown_of known kept)

-- a kept line with the names that it defines
abbrev pub named_line : KeptLine → PlacedLine × List (List ℕ)
named_line kept = (model_of_kept kept, names_of kept)

-- the lines of a listing, by what comes after the kept lines
abbrev pub lines_by : List KeptLine → ListedEnding → List (PlacedLine × Shown)
lines_by kept (Whole known) = map (listed_line (Some known)) kept
lines_by kept (After known number error) = map (listed_line (Some known)) (take (number - 1) kept)
lines_by kept (Before error) = map (listed_line None) kept

-- and its names
abbrev pub names_by : List KeptLine → ListedEnding → List ListedName
names_by kept (Whole known) = flat_map (names_of_line known) (map named_line kept)
names_by kept other = []

-- what is refused, by what comes after the kept lines
abbrev pub refused_in : ListedEnding → Option CopyError
refused_in (Whole known) = None
refused_in (After known number error) = Some error
refused_in (Before error) = Some error

-- what is refused of a source, as a result
abbrev pub as_result : Option CopyRefusal → Result Unit CopyRefusal
as_result None = Ok tt
as_result (Some refusal) = Err refusal

-- the refusal that the definitions have, or none
abbrev pub RefusedAs : Option CopyError → Option CopyRefusal → Type 0
RefusedAs None defined = defined ≡ None
RefusedAs (Some error) defined = CopyRefuses error (as_result defined) × GivesReport error

-- The kept lines and what comes after them are the listing of copied lines. Where no line is refused by the first
-- checks, as many files were copied as were asked for.
pub record Lists (asked : ℕ) (listed : ListedSource) (found : Copied) : Type 0 where
  pub lines : lines_by listed.lines.items listed.ending ≡ (listing_of found).lines
  pub names : names_by listed.lines.items listed.ending ≡ (listing_of found).names
  pub refused : RefusedAs (refused_in listed.ending) (listing_of found).refusal
  pub copies : (lines : List Line) → layout_copied found ≡ Ok lines → asked ≡ found.copies

-- the shelf failed at the file that was asked for last
abbrev pub FaultEnds : {A : Type 0} → Result A CopyError → List Question → Type 0
FaultEnds (Err Fault) questions = EndsWith Unanswered questions
FaultEnds other questions = ⊤

-- There are questions and answers such that what is listed is the listing of the definitions by these answers, whatever
-- else the shelf would have answered.
pub record ListAnswered {A : Type 0} (Lists : ℕ → A → Copied → Type 0) (before after : ShelfState) (source : List ℕ)
    (result : Result A CopyError) : Type 0 where
  pub questions : List Question
  pub dialogue : CopyDialogue before after source questions
  pub ends : FaultEnds result questions
  pub gives : (contents : Contents) → Agrees most_bytes contents 0 questions
      → IfOk result (λ listed. Lists (length questions) listed (copied_by contents source))

-- what a refusal says of the shelf, and what it says that there is none
abbrev pub RefusedCauses : Option CopyError → ShelfState → ShelfState → Type 0
RefusedCauses None before after = ReadWithinLimit most_bytes before after
RefusedCauses (Some error) before after = ShelfCauses error before after

abbrev pub ListCauses : Result ListedSource CopyError → ShelfState → ShelfState → Type 0
ListCauses (Ok listed) before after = RefusedCauses (refused_in listed.ending) before after
ListCauses (Err error) before after = ShelfCauses error before after
