use Rattle.std.proofs.Common.{ℕ, [], List, subst}
use Rattle.std.specs.Prelude.{map}
use Rattle.std.proofs.lemmas.Result.{err_from_is_err_and}
use Rattle.object_tags.specs.Seen.{model_of_module}
use Rattle.asm_defs.specs.FirstChecks.{refs}
use Rattle.asm_defs.specs.Modules.{unused}
use Rattle.asm_core.specs.Resolving.{IsOutput}
use Rattle.asm_core.proofs.EndLaws.{ends_refused, ends_stopped, ends_going}
use Rattle.asm_core.proofs.lines.AsmLines.module.Goals as goal

pub returns-in_err-resolve_all-clause-gives : goal.returns-in_err-resolve_all-clause-gives
returns-in_err-resolve_all-clause-gives c = λ lines is.
    let result = c.from_residual-in_err-resolve_all in
    let p = err_from_is_err_and result.result result.ensures.1 in
    rw (p.1, p.2) (ends_refused lines c.args.self.now c.output.new.self is c.output.ensures.same c.in_err-resolve_all.field-0.0
    (c.in_err-resolve_all.ensures {u = tt} (map unused c.args.self.now.refs.items)))

pub returns-in-Some-clause-gives : goal.returns-in-Some-clause-gives
returns-in-Some-clause-gives c = λ lines is.
    let none = map unused (refs lines) in
    ends_stopped lines c.args.self.now c.output.new.self is c.output.ensures.same none c.in_ok-output.output c.resolve_all.new.output
    (c.in_ok-resolve_all.ensures {u = tt} none)
    c.in-Some.refused c.in-Some.is c.stopped.result c.stopped.ensures

pub returns-clause-gives : goal.returns-clause-gives
returns-clause-gives c = λ lines is.
    let none = map unused (refs lines) in
    ends_going lines c.args.self.now c.output.new.self is c.output.ensures.same none c.in_ok-output.output c.resolve_all.new.output
    (c.in_ok-resolve_all.ensures {u = tt} none)
    c.in_default.is
    (λ founds image. subst (λ (names : List (List ℕ)). IsOutput (map unused names) [] founds c.in_ok-output.output) is.refs
    (c.in_ok-output.ensures.output founds image))
    (model_of_module c.in_ok-module.module)
    (λ assembled_lines knows. c.in_ok-module.ensures lines assembled_lines (record { names = knows.names; reached = knows.reached; title = knows.title; defs = knows.defs }))
