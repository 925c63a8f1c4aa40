-- The report of a source with the files that it copies.
use Rattle.std.proofs.Common.{◌≡◌, ℕ, List, Ok, Err, refl, sym, ap}
use Rattle.std.specs.Prelude.{Option}
use Rattle.source_defs.specs.Refusals.{map_ok}
use Rattle.object_defs.specs.Writing.{written_lines}
use Rattle.object_tags.specs.Seen.{model_of_module}
use Rattle.object_tags.specs.declared.parts.Module.{Module}
use Rattle.shelf_defs.specs.Copied as copied
use Rattle.shelf_defs.specs.Copied.{most_bytes}
use Rattle.bench_shelf.specs.States.{ShelfState}
use Rattle.bench_shelf.specs.CopyAnswers.{model_of_cause}
use Rattle.bench_shelf.specs.Causes.{ShelfCauses, ReadWithinLimit}
use Rattle.bench_shelf.specs.Answered.{Answered}
use Rattle.bench_shelf.specs.declared.copy_error.CopyCause.{CopyCause}
use Rattle.bench_shelf.specs.declared.copy_error.CopyCause.TheVariants.{Asm, BadCopy, TooDeep, TooMany, Missing}
use Rattle.bench_shelf.specs.declared.copy_error.CopyError.{CopyError}
use Rattle.bench_shelf.specs.declared.copy_error.CopyError.TheVariants.{At, TooLarge, Fault, Memory}
use Rattle.report_defs.specs.declared.status.Status.TheVariants.{Done}
use Rattle.report_defs.specs.Report.{Whole}
use Rattle.report_defs.specs.FileReports.{copy_report}
use Rattle.reports.specs.declared.command_error.CommandError.{CommandError}
use Rattle.reports.specs.Answers.{Reported, error_answer}
use Rattle.file_commands.specs.Copying.{copy_refusal}
use Rattle.file_commands.specs.Reported.{CopyCauses, CopyReported, CopyFails}

module _ (before after : ShelfState) (source : List ℕ) where
  pub module_reported : (found : Module) (lines : List (List ℕ)) → Answered before after source (Ok found) → ReadWithinLimit most_bytes before after
      → lines ≡ written_lines (model_of_module found) → CopyReported before after source (Whole Done lines)
  module_reported found lines answered within is = record {
    questions = answered.questions;
    dialogue = answered.dialogue;
    answer = Ok (model_of_module found);
    gives = λ contents agrees. sym (answered.gives contents agrees).2;
    opened = λ contents agrees. (answered.gives contents agrees).1;
    causes = within;
    is = ap (Whole Done) is;
  }

  line_causes : (file : Option (List ℕ)) (line : ℕ) (cause : CopyCause) → ShelfCauses (At file line cause) before after
      → CopyCauses (Err (copied.At (record { file = file; line = line }) (model_of_cause cause))) before after
  line_causes file line (Asm cause) causes = causes
  line_causes file line BadCopy causes = causes.1
  line_causes file line TooDeep causes = causes.1
  line_causes file line TooMany causes = causes.1
  line_causes file line (Missing name) causes = causes

  pub error_reported : (error : CopyError) (command_error : CommandError) → Answered before after source (Err error) → ShelfCauses error before after
      → error_answer command_error ≡ map_ok (λ refusal. copy_report (Err refusal)) (copy_refusal error)
      → Reported (CopyReported before after source) (CopyFails before after source) (error_answer command_error)
  error_reported (At file line cause) command_error answered causes is = rw is (record {
    questions = answered.questions;
    dialogue = answered.dialogue;
    answer = Err (copied.At (record { file = file; line = line }) (model_of_cause cause));
    gives = λ contents agrees. sym (answered.gives contents agrees).1;
    opened = tt;
    causes = line_causes file line cause causes;
    is = refl;
  })
  error_reported TooLarge command_error answered causes is = rw is (record {
    questions = answered.questions;
    dialogue = answered.dialogue;
    answer = Err copied.TooLarge;
    gives = λ contents agrees. sym (answered.gives contents agrees);
    opened = tt;
    causes = causes;
    is = refl;
  })
  error_reported Fault command_error answered causes is =
      rw is (answered.questions, answered.dialogue, record { ends = answered.ends; rose = causes.0; within = causes.1 })
  error_reported Memory command_error answered causes is = rw is (answered.questions, answered.dialogue, causes)
