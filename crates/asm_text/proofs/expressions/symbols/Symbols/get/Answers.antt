use Rattle.std.proofs.Common.{◌≡◌, Some, None, sym, ap, ◌∙◌}
use Rattle.std.specs.Option.{option_map}
use Rattle.std.specs.FinMap.{get}
use Rattle.expression_defs.specs.Expression.{Absolute}
use Rattle.expression_defs.specs.Symbols.{registers}
use Rattle.expression_defs.proofs.SymbolLaws.{found}
use Rattle.asm_text.specs.GivenValues.{model_of_value}
use Rattle.asm_text.proofs.Names.{get_kept}
use Rattle.asm_text.proofs.expressions.symbols.Symbols.get.Goals as goal

pub returns-in-Some : goal.returns-in-Some
returns-in-Some c =
    let name = c.args.name.now in
    let kept =
    ap (λ names. get names name) (sym c.self.view_is) ∙ get_kept c.self.inside.defined.entries name in
    let register : found name registers ≡ Some (Absolute c.in-Some.number) =
    sym (rw c.as_bytes.ensures.value at c.in-Some.ensures) in
    sym (rw register at kept)

pub returns-in-None : goal.returns-in-None
returns-in-None c =
    let name = c.args.name.now in
    let kept =
    ap (λ names. get names name) (sym c.self.view_is) ∙ get_kept c.self.inside.defined.entries name in
    let register : found name registers ≡ None = sym (rw c.as_bytes.ensures.value at c.in-None.ensures) in
    ap (option_map model_of_value) (c.copied.ensures ∙ c.get.ensures.value) ∙ sym (rw register at kept)
