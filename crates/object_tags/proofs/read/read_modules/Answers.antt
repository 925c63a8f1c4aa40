use Rattle.std.proofs.Common.{◌≡◌, List, Result, sym, ap, ◌∙◌, subst}
use Rattle.std.proofs.lemmas.Result.{err_from_is_err_and}
use Rattle.source_defs.specs.Refusals.{Refusal}
use Rattle.object_defs.specs.declared.causes.TagCause.{TagCause}
use Rattle.object_defs.specs.Modules as defined
use Rattle.object_defs.specs.Reading.{read, form_of, text_lines}
use Rattle.object_laws.specs.Running.{kept_lines, finished}
use Rattle.object_laws.proofs.ReaderRuns.{read_is}
use Rattle.object_tags.specs.Answers.{Gives, model_of_modules}
use Rattle.object_tags.specs.Reads.{kept_of}
use Rattle.object_tags.proofs.LineSteps.{refuses_same}
use Rattle.object_tags.proofs.read.read_modules.Goals as goal

pub returns-in_err-take_text : goal.returns-in_err-take_text
returns-in_err-take_text c =
    let text = text_lines c.args.bytes.now in
    let p = err_from_is_err_and c.from_residual.result c.from_residual.ensures.1 in
    let begins : read c.args.bytes.now ≡ kept_lines (form_of c.args.bytes.now) (kept_of c.new-reader.result) text =
    read_is c.args.bytes.now ∙ ap (λ kept. kept_lines (form_of c.args.bytes.now) kept text) (sym c.new-reader.ensures) in
    rw (p.1, p.2) (refuses_same c.in_err-take_text.field-0.0 _ _ begins (c.in_err-take_text.ensures {u = tt}))

pub returns : goal.returns
returns c =
    let text = text_lines c.args.bytes.now in
    let begins : read c.args.bytes.now ≡ kept_lines (form_of c.args.bytes.now) (kept_of c.new-reader.result) text =
    read_is c.args.bytes.now ∙ ap (λ kept. kept_lines (form_of c.args.bytes.now) kept text) (sym c.new-reader.ensures) in
    let same : read c.args.bytes.now ≡ finished (kept_of c.take_text.new.reader) (kept_of c.take_text.new.reader).current =
    begins ∙ c.in_ok-take_text.ensures {u = tt} in
    subst (λ (all : Result (List defined.Module) (Refusal TagCause)). Gives (λ modules. model_of_modules modules.items) c.finish.result all)
    (sym same) c.finish.ensures
