-- What a command asked a shelf for.
use Rattle.std.specs.Prelude.{ℕ, ◌≤◌, List, [], length, IfSome}
use Rattle.shelf_defs.specs.Files.{of_files}
use Rattle.shelf_defs.specs.Copied.{most_bytes, most_copies}
use Rattle.shelf_defs.specs.Questions.{Question, Agrees, InTurn, IsNextCopied}
use Rattle.bench_shelf.specs.States.{ShelfState}
use Rattle.bench_shelf.specs.Causes.{ReadsOnce}

-- A shelf was asked for these files and no others, in this order, each once, and each as the next after the answers
-- before. A file may have `limit` bytes, and there are `most` questions at most. Where the shelf shows its files, the
-- answers are the ones of the files.
pub record Dialogue (limit most : ℕ) (IsNext : List Question → Question → Type 0) (before after : ShelfState)
    (questions : List Question) : Type 0 where
  pub turns : InTurn IsNext [] questions
  pub few : length questions ≤ most
  pub reads : ReadsOnce limit questions before after
  pub files : IfSome before.files (λ files. Agrees limit (of_files files) 0 questions)

-- what a source asks for by its COPY lines
abbrev pub CopyDialogue : ShelfState → ShelfState → List ℕ → List Question → Type 0
CopyDialogue before after source questions =
    Dialogue most_bytes most_copies (IsNextCopied source) before after questions
