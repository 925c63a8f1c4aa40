use Rattle.std.proofs.Common.{◌≡◌, arith, ap, sym, ◌∙◌, ℕ, List, Err}
use Rattle.source_defs.specs.Refusals.{Refusal}
use Rattle.object_defs.specs.declared.causes.TagCause.{TagCause}
use Rattle.object_defs.specs.Reading.{read}
use Rattle.report_defs.specs.Report.{Rejected}
use Rattle.report_defs.specs.LinkedFiles.{InFile, in_file}
use Rattle.std.proofs.lemmas.List.{length-map}
use Rattle.object_tags.specs.Seen.{model_of_module}
use Rattle.object_tags.specs.Answers.{model_of_modules}
use Rattle.object_defs.proofs.ModuleCount.{few_modules}
use Rattle.file_commands.proofs.modules.modules_in.Goals as goal

pub returns-in-Ok-clause-few : goal.returns-in-Ok-clause-few
returns-in-Ok-clause-few c =
    let few = few_modules c.as_slice.result.now (model_of_modules c.in-Ok.modules.items) c.in-Ok.ensures in
    omega (arith, few, c.in-Ok.modules.ok, length-map c.in-Ok.modules.items model_of_module)

pub returns-in-Err-At-clause-is : goal.returns-in-Err-At-clause-is
returns-in-Err-At-clause-is c =
    let name = c.args.text.now.name in
    let refused : Refusal TagCause = record { line = c.in-Err-At.line; cause = c.in-Err-At.cause } in
    let is : read c.as_slice.result.now ≡ Err refused = rw c.in-Err-At.field-0-is at c.in-Err-At.ensures in (
      InFile name refused,
      ap (λ (bytes : List ℕ). in_file name (read bytes)) (sym c.as_slice.ensures.value) ∙ ap (in_file name) is,
      ap Rejected c.file_tag_line.ensures,
    )
