use Rattle.std.proofs.Common.{◌≡◌, Ok, subst, refl}
use Rattle.std.specs.FinMap.{get}
use Rattle.expression_defs.specs.Symbols.{Names}
use Rattle.expression_defs.specs.Expression.{Absolute, expression}
use Rattle.asm_text.proofs.Registers.{register_alone}
use Rattle.asm_text.proofs.expressions.symbols.Symbols.register_in.Goals as goal

pub returns : goal.returns
returns c here =
    let word_is = c.in_ok-number.ensures in
    subst (λ (names : Names). expression (get names) here c.args.text.now ≡ Ok (Absolute c.in_ok-number.number)) c.self.view_is
    (register_alone c.self.inside.defined.entries here c.args.text.now c.in_ok-number.number (word_is.name refl) word_is.written word_is.number)
