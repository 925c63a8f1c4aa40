-- What a program with files reads.
use Rattle.std.specs.Prelude.{◌≡◌, ◌⊎◌, ℕ, List}
use Rattle.base_defs.specs.Counts.{Rose}
use Rattle.bench_io.specs.Stream.{SourceState}
use Rattle.bench_io.specs.ReadAll.{ReadWhole}
use Rattle.report_defs.specs.Report.{largest_input}
use Rattle.shelf_defs.specs.Files.{Files}
use Rattle.shelf_defs.specs.Questions.{Question}
use Rattle.bench_shelf.specs.States.{ShelfState}
use Rattle.bench_shelf.specs.Dialogue.{CopyDialogue}

-- the input, and a shelf of files
pub record Inputs : Type 0 where
  pub input : SourceState
  pub shelf : ShelfState

-- what both may show
pub record ShownInputs : Type 0 where
  pub bytes : List ℕ
  pub files : Files

-- The shelf is as it was, unless the input was taken whole before. Then it was asked for the files that the source
-- copies, each as the next after the answers before.
abbrev pub ReadsFirst : Inputs → Inputs → Type 0
ReadsFirst before after =
    (after.shelf ≡ before.shelf)
    ⊎ ((source : List ℕ) × ReadWhole largest_input before.input after.input source
    × (questions : List Question) × CopyDialogue before.shelf after.shelf source questions)

-- a count of faults rose: of the input, or of the shelf
abbrev pub FaultRose : Inputs → Inputs → Type 0
FaultRose before after =
    Rose before.input.faults after.input.faults ⊎ Rose before.shelf.source.faults after.shelf.source.faults
