-- What the contents of a shelf show where it shows its files, and where it does not.
use Rattle.std.proofs.Common.{◌≡◌, ℕ, List, Some, None, Ok, Err, sym, ◌∙◌, subst}
use Rattle.std.specs.Prelude.{Option, Result, IfSome}
use Rattle.object_tags.specs.Seen.{model_of_module}
use Rattle.object_tags.specs.declared.parts.Module.{Module}
use Rattle.object_defs.specs.Modules as object
use Rattle.asm_core.proofs.EndedLines.{lines_make_texts}
use Rattle.shelf_defs.specs.Files.{Files, Contents, of_files}
use Rattle.shelf_defs.specs.Copied.{CopyRefusal, most_bytes, copied_by}
use Rattle.shelf_defs.specs.Assembly.{texts, module_by, module_of_files}
use Rattle.bench_shelf.specs.States.{ShelfState}
use Rattle.bench_shelf.specs.declared.copy_error.CopyError.{CopyError}
use Rattle.bench_shelf.specs.CopyAnswers.{GivesCopied}
use Rattle.shelf_defs.specs.Questions.{Question, Agrees}
use Rattle.bench_shelf.specs.Answered.{Answered, IsOfLines, GivesBy}
use Rattle.bench_shelf.specs.Dialogue.{CopyDialogue}
use Rattle.bench_shelf.proofs.OneLines.{copied_one}
use Rattle.bench_shelf.proofs.AskedLaws.{some_contents}

copied_of : (result : Result Module CopyError) (questions : List Question) (source : List ℕ) (contents : Contents)
    → GivesBy result questions source contents → GivesCopied result (module_by contents source)
copied_of (Ok found) questions source contents gives = gives.2
copied_of (Err error) questions source contents gives = gives

module _ (before after : ShelfState) (source : List ℕ) where
  -- where the shelf shows its files, they have the answers
  files_agree : (files : Files) (questions : List Question) → before.files ≡ Some files → CopyDialogue before after source questions
      → Agrees most_bytes (of_files files) 0 questions
  files_agree files questions is dialogue =
      subst (λ shown. IfSome shown (λ files. Agrees most_bytes (of_files files) 0 questions)) is dialogue.files

  pub shown_module : (shown : Option Files) (result : Result Module CopyError) → before.files ≡ shown → Answered before after source result
      → IfSome shown (λ files. GivesCopied result (module_of_files files source))
  shown_module None result is answered = tt
  shown_module (Some files) result is answered =
      copied_of result answered.questions source (of_files files)
      (answered.gives (of_files files) (files_agree files answered.questions is answered.dialogue))

  -- a module is that of some lines, also where the shelf shows no files
  pub module_is_of_lines : (found : Module) → Answered before after source (Ok found)
      → IsOfLines (model_of_module found)
  module_is_of_lines found answered =
      let some = some_contents most_bytes answered.questions in (
        texts (copied_by some.0 source).lines,
        sym (lines_make_texts (texts (copied_by some.0 source).lines) (copied_one some.0 source)) ∙ (answered.gives some.0 some.1).0,
      )

  -- the module of the definitions, where the shelf shows its files
  pub module_of_shown : (shown : Option Files) (questions : List Question) (answer : Result object.Module CopyRefusal) → before.files ≡ shown
      → CopyDialogue before after source questions → ((contents : Contents) → Agrees most_bytes contents 0 questions → answer ≡ module_by contents source)
      → IfSome shown (λ files. answer ≡ module_of_files files source)
  module_of_shown None questions answer is dialogue gives = tt
  module_of_shown (Some files) questions answer is dialogue gives = gives (of_files files) (files_agree files questions is dialogue)
