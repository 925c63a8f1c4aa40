use Rattle.std.proofs.Common.{◌≡◌, ◌+◌, List, [], ◌∷◌, ◌++◌, take, drop, length, sym, ap, ◌∙◌, arith, length-append}
use Rattle.std.proofs.lemmas.List.{take_more, drop_more, take-append-drop}
use Rattle.object_tags.specs.Answers.{model_of_modules}
use Rattle.object_tags.specs.Seen.{model_of_module}
use Rattle.std.proofs.lemmas.List.{map-append}
use Rattle.file_commands.specs.declared.file_text.FileText.{FileText}
use Rattle.reports.specs.Answers.{error_answer}
use Rattle.file_commands.proofs.ModuleLists.{modules_next, modules_end}
use Rattle.file_commands.proofs.modules.modules_of.Goals as goal

pub returns-in-Err-clause-is : goal.returns-in-Err-clause-is
returns-in-Err-clause-is c =
    let texts = c.args.texts.now in
    let i = c.loop-text.text-index in
    let text = c.text-item.result in
    let all : texts ≡ take i texts ++ text ∷ drop (i + 1) texts =
    sym (take-append-drop i texts)
    ∙ ap (λ (rest : List FileText). take i texts ++ rest)
    (drop_more texts i text (omega arith) ∙ ap (λ (x : FileText). x ∷ drop (i + 1) texts) (sym c.text-item.is)) in
    modules_end (take i texts) (drop (i + 1) texts) texts text _ (error_answer c.in-Err.error) all c.loop-text.invariant.found c.in-Err.ensures.is

pub loop-text-preserved : goal.loop-text-preserved
loop-text-preserved c =
    let texts = c.args.texts.now in
    let i = c.loop-text.text-index in
    let text = c.text-item.result in
    let next : take (i + 1) texts ≡ take i texts ++ text ∷ [] =
    take_more texts i text (omega arith) ∙ ap (λ (x : FileText). take i texts ++ x ∷ []) (sym c.text-item.is) in
    let items = c.in_ok-append-in-Ok.ensures.items in
    record {
      found = modules_next (take i texts) (take (i + 1) texts) text _ (model_of_modules c.in-Ok.found.items) _ next
          (ap model_of_modules items ∙ map-append model_of_module c.loop-text.modules.items c.in-Ok.found.items)
          c.loop-text.invariant.found c.in-Ok.ensures.is;
      few = omega (
        arith,
        ap length items,
        length-append c.loop-text.modules.items c.in-Ok.found.items,
        c.in-Ok.ensures.few,
        c.loop-text.invariant.few,
        c.in-Ok.found.ok,
      );
    }
