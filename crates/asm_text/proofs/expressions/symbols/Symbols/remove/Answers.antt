use Rattle.std.proofs.Common.{sym, ap, ◌∙◌}
use Rattle.std.specs.Option.{option_map}
use Rattle.std.specs.FinMap.{get, remove}
use Rattle.asm_text.specs.GivenValues.{model_of_value}
use Rattle.asm_text.proofs.Names.{get_kept, remove_kept}
use Rattle.asm_text.proofs.expressions.symbols.Symbols.remove.Goals as goal

pub returns-clause-was : goal.returns-clause-was
returns-clause-was c =
    let name = c.args.name.now in
    let kept = ap (λ names. get names name) (sym c.self.view_is) ∙ get_kept c.self.inside.defined.entries name in
    ap (option_map model_of_value) c.remove.ensures.value ∙ sym (rw c.requires at kept)

pub returns-clause-removed : goal.returns-clause-removed
returns-clause-removed c =
    remove_kept c.self.inside.defined c.remove.new.self c.args.name.now c.remove.ensures.updates c.requires
    ∙ ap (λ names. remove names c.args.name.now) c.self.view_is
