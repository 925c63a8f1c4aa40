-- The report of files that are linked.
use Rattle.std.proofs.Common.{◌≡◌, ℕ, List, Ok, Err, refl, sym, ap, ◌∙◌}
use Rattle.std.specs.Prelude.{Result}
use Rattle.source_defs.specs.Refusals.{map_ok, ◌>>=◌}
use Rattle.object_defs.specs.Modules.{Module}
use Rattle.link_defs.specs.LinkedMemory.{linked}
use Rattle.bench_shelf.specs.declared.error.FileError.{FileError}
use Rattle.bench_shelf.specs.declared.error.FileError.TheVariants.{Missing, TooLarge, Fault, Memory}
use Rattle.bench_shelf.specs.States.{ShelfState}
use Rattle.bench_shelf.specs.Causes.{FileCauses, ReadWithinLimit}
use Rattle.report_defs.specs.declared.status.Status.{Status}
use Rattle.report_defs.specs.Report.{Report, largest_input}
use Rattle.report_defs.specs.LinkedFiles as spec
use Rattle.report_defs.specs.LinkedFiles.{FilesRefusal, modules_of, as_linked, linked_texts}
use Rattle.report_defs.specs.FileReports.{files_report}
use Rattle.file_commands.specs.declared.file_text.FileText.{FileText}
use Rattle.file_commands.specs.Modules.{ReportsRefused}
use Rattle.reports.specs.declared.command_error.CommandError.{CommandError}
use Rattle.reports.specs.Answers.{WantsMemory, Reported, error_answer}
use Rattle.file_commands.specs.Reading.{model_of_texts, Reads, refusal_of}
use Rattle.file_commands.specs.Reported.{LinkReported, LinkFails}

module _ (before after : ShelfState) (names : List (List ℕ)) where
  pub texts_reported : {A : Type 0} (see : A → List (List ℕ × List ℕ)) (value : A) (linked : List FileText) (answer : Result Report Status)
      → Reads see names (Ok value) before after → ReadWithinLimit largest_input before after → model_of_texts linked ≡ see value
      → Reported (λ report. report ≡ files_report (linked_texts (model_of_texts linked))) WantsMemory answer
      → Reported (LinkReported before after names) (LinkFails names before after) answer
  texts_reported see value linked (Ok report) reads within same is = record {
    questions = reads.questions;
    dialogue = reads.dialogue;
    texts = Ok (see value);
    gives = λ contents agrees. sym (reads.gives contents agrees);
    causes = (reads.ends, within);
    is = is ∙ ap (λ texts. files_report (linked_texts texts)) same;
  }
  texts_reported see value linked (Err end) reads within same memory = rw memory (reads.questions, reads.dialogue, within)

  pub error_reported : {A : Type 0} (see : A → List (List ℕ × List ℕ)) (error : FileError) (command_error : CommandError)
      → Reads see names (Err error) before after → FileCauses largest_input error before after
      → error_answer command_error ≡ map_ok (λ refusal. files_report (Err refusal)) (refusal_of error)
      → Reported (LinkReported before after names) (LinkFails names before after) (error_answer command_error)
  error_reported see (Missing name) command_error reads causes is = rw is (record {
    questions = reads.questions;
    dialogue = reads.dialogue;
    texts = Err (spec.Missing name);
    gives = λ contents agrees. sym (reads.gives contents agrees);
    causes = (reads.ends, causes.0, causes.1);
    is = refl;
  })
  error_reported see TooLarge command_error reads causes is = rw is (record {
    questions = reads.questions;
    dialogue = reads.dialogue;
    texts = Err spec.TooLarge;
    gives = λ contents agrees. sym (reads.gives contents agrees);
    causes = (reads.ends, causes);
    is = refl;
  })
  error_reported see Fault command_error reads causes is =
      rw is (reads.questions, reads.dialogue, record { ends = reads.ends; rose = causes.0; within = causes.1 })
  error_reported see Memory command_error reads causes is = rw is (reads.questions, reads.dialogue, causes)

-- ---- what is reported of files that were read

module _ (texts : List FileText) where
  abbrev ReportsTexts : Report → Type 0
  ReportsTexts report = report ≡ files_report (linked_texts (model_of_texts texts))

  pub bad_place : (answer : Result Report Status) → Reported (ReportsRefused (modules_of (model_of_texts texts))) WantsMemory answer
      → Reported ReportsTexts WantsMemory answer
  bad_place (Ok report) (refusal, refused, same) =
      same ∙ ap (λ (found : Result (List Module) FilesRefusal). files_report (found >>= λ modules. as_linked (linked modules))) (sym refused)
  bad_place (Err end) memory = memory

  pub texts_linked : (modules : List Module) (answer : Result Report Status) → modules_of (model_of_texts texts) ≡ Ok modules
      → Reported (λ report. report ≡ files_report (as_linked (linked modules))) WantsMemory answer → Reported ReportsTexts WantsMemory answer
  texts_linked modules (Ok report) found same =
      same ∙ ap (λ (found : Result (List Module) FilesRefusal). files_report (found >>= λ modules. as_linked (linked modules))) (sym found)
  texts_linked modules (Err end) found memory = memory
