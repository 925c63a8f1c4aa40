use Rattle.std.proofs.Common.{ap, arith, length}
use Rattle.std.proofs.lemmas.List.{length-map}
use Rattle.reports.specs.Answers.{answer}
use Rattle.file_commands.specs.Reading.{model_of_text, model_of_texts}
use Rattle.file_commands.proofs.AskedLaws.{as_many}
use Rattle.file_commands.proofs.LinkLaws.{texts_reported, error_reported}
use Rattle.file_commands.proofs.link.link_files.Goals as goal

pub returns-in-Ok-clause-report : goal.returns-in-Ok-clause-report
returns-in-Ok-clause-report g c =
    texts_reported _ _ c.args.names.now (λ texts. model_of_texts texts.items) c.in-Ok.texts c.as_slice.result.now (answer c.link_texts.result) c.in-Ok.ensures.reads
    c.in-Ok.ensures.within (ap model_of_texts c.as_slice.ensures.value) c.link_texts.ensures

pub returns-in-Err-clause-report : goal.returns-in-Err-clause-report
returns-in-Err-clause-report g c =
    error_reported _ _ c.args.names.now (λ texts. model_of_texts texts.items) c.in-Err.error c.unread.result c.in-Err.ensures.reads c.in-Err.ensures.causes c.unread.ensures

pub link_texts-requires : goal.link_texts-requires
link_texts-requires g c =
    let many = as_many (λ texts. model_of_texts texts.items) c.in-Ok.texts c.args.names.now _ _ c.in-Ok.ensures.reads in
    omega (arith, many, length-map c.in-Ok.texts.items model_of_text, ap length c.as_slice.ensures.value, c.requires)
