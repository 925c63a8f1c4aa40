use Rattle.std.proofs.Common.{refl, sym, ap, subst, ◌∙◌}
use Rattle.std.specs.Prelude.{IsSome}
use Rattle.std.specs.FinMap.{get, insert}
use Rattle.std.specs.Option.{option_map}
use Rattle.expression_defs.specs.Symbols.{Names}
use Rattle.asm_text.specs.GivenValues.{model_of_value}
use Rattle.asm_text.proofs.Names.{define_kept, kept_same, get_free, register_some, register_none, some_seen, seen_some, on_ok, on_err}
use Rattle.asm_text.proofs.expressions.symbols.Symbols.define.Goals as goal

pub returns-then-is_some-clause-duplicate : goal.returns-then-is_some-clause-duplicate
returns-then-is_some-clause-duplicate c =
    let name = c.args.name in
    let found_value =
    register_some c.register_number.result c.self.inside.defined.entries name (rw c.as_bytes.ensures.value at c.register_number.ensures)
    (sym c.is_some.ensures ∙ c.if-is_some.true) in
    (λ _. subst IsSome (ap (λ (names : Names). get names name) c.self.view_is) found_value, λ _. refl)

pub returns-clause-defined : goal.returns-clause-defined
returns-clause-defined c =
    let kept = c.self.inside.defined in
    let name = c.args.name in
    let none =
    register_none c.register_number.result name (rw c.as_bytes.ensures.value at c.register_number.ensures) (sym c.is_some.ensures ∙ c.if-is_some.false) in
    on_ok c.insert_new.result c.insert_new.ensures.kept c.insert_new.ensures.fresh
    (λ updates fresh.
    define_kept kept c.insert_new.new.kept name c.args.value updates (get_free kept name none ∙ ap (option_map model_of_value) fresh)
    ∙ ap (λ (names : Names). insert names name (model_of_value c.args.value)) c.self.view_is)

pub returns-clause-duplicate : goal.returns-clause-duplicate
returns-clause-duplicate c =
    let kept = c.self.inside.defined in
    let name = c.args.name in
    let none =
    register_none c.register_number.result name (rw c.as_bytes.ensures.value at c.register_number.ensures) (sym c.is_some.ensures ∙ c.if-is_some.false) in
    let same = sym (ap (λ (names : Names). get names name) c.self.view_is) ∙ get_free kept name none in (
      λ e. subst IsSome (sym same) (some_seen _ (c.insert_new.ensures.duplicate.0 e)),
      λ some. c.insert_new.ensures.duplicate.1 (seen_some _ (subst IsSome same some)),
    )

pub returns-clause-unchanged : goal.returns-clause-unchanged
returns-clause-unchanged c =
    on_err c.insert_new.result c.insert_new.ensures.unchanged
    (λ same. kept_same c.self.inside.defined c.insert_new.new.kept same ∙ c.self.view_is)
