-- The result of a source with the files that it copies, by the answers of a shelf.
use Rattle.std.specs.Prelude.{◌≡◌, ℕ, List, length, Some, Result, Ok, Err, IfErr}
use Rattle.source_defs.specs.EndedLines.{text_of}
use Rattle.asm_defs.specs.Modules.{module_of_source, module_of_lines}
use Rattle.object_defs.specs.Modules as object
use Rattle.object_tags.specs.Seen.{model_of_module}
use Rattle.object_tags.specs.declared.parts.Module.{Module}
use Rattle.shelf_defs.specs.Files.{Contents}
use Rattle.shelf_defs.specs.Copied.{most_bytes, copied_by}
use Rattle.shelf_defs.specs.Assembly.{texts, module_by}
use Rattle.shelf_defs.specs.Questions.{Question, Agrees}
use Rattle.bench_shelf.specs.States.{ShelfState}
use Rattle.bench_shelf.specs.declared.copy_error.CopyError.{CopyError}
use Rattle.bench_shelf.specs.Leading.{EndsBy}
use Rattle.bench_shelf.specs.CopyAnswers.{GivesCopied}
use Rattle.bench_shelf.specs.Dialogue.{CopyDialogue}

-- The module by some contents, or the refusal. A module is the one of the copied lines as one text, each line ended by
-- a carriage return and a line feed, and as many files are copied as were asked for.
abbrev pub GivesBy : Result Module CopyError → List Question → List ℕ → Contents → Type 0
GivesBy (Ok found) questions source contents =
    (module_of_source (text_of (texts (copied_by contents source).lines)) ≡ Ok (model_of_module found))
    × (length questions ≡ (copied_by contents source).copies) × GivesCopied (Ok found) (module_by contents source)
GivesBy (Err error) questions source contents = GivesCopied (Err error) (module_by contents source)

-- a module is the one of some lines
abbrev pub IsOfLines : object.Module → Type 0
IsOfLines found = (lines : List (List ℕ)) × (module_of_lines lines ≡ Ok found)

-- There are questions and answers such that the result is the one of the definitions by these answers, whatever else
-- the shelf would have answered. Where the shelf failed, it did at the file that was asked for last.
pub record Answered (before after : ShelfState) (source : List ℕ) (result : Result Module CopyError) : Type 0 where
  pub questions : List Question
  pub dialogue : CopyDialogue before after source questions
  pub ends : IfErr result (λ error. EndsBy (Some error) questions)
  pub gives : (contents : Contents) → Agrees most_bytes contents 0 questions → GivesBy result questions source contents
