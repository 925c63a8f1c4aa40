use Rattle.std.proofs.Common.{◌+◌, sym, subst, ◌∙◌}
use Rattle.asm_checks.specs.Defined.{model_of_statement}
use Rattle.asm_defs.specs.declared.location.Location.{Location}
use Rattle.asm_core.specs.Assembling.{AssemblesBy}
use Rattle.asm_core.specs.Emitting.{Emits}
use Rattle.asm_core.proofs.OutputLaws.{on_err}
use Rattle.asm_core.proofs.WorkLaws.{kept_stopped, prepared, unkept, worked}
use Rattle.asm_core.proofs.lines.AsmLines.work.Goals as goal

pub returns-then-is_some-clause-added : goal.returns-then-is_some-clause-added
returns-then-is_some-clause-added c =
    kept_stopped c.args.self.now c.args.text.now c.args.checked.now c.keep.new.self c.keep.result (sym c.is_some.ensures
    ∙ c.if-is_some.true) c.keep.ensures.work c.keep.ensures.kept

pub returns-in_err-prepare-clause-unchanged : goal.returns-in_err-prepare-clause-unchanged
returns-in_err-prepare-clause-unchanged c = on_err c.from_residual.result
    (prepared c.args.self.now c.prepare.new.self c.prepare.ensures.lines c.prepare.ensures.image)

pub returns-in_err-waiting-clause-unchanged : goal.returns-in_err-waiting-clause-unchanged
returns-in_err-waiting-clause-unchanged c =
    on_err c.from_residual-in_err-waiting.result (prepared c.args.self.now c.prepare.new.self c.prepare.ensures.lines c.prepare.ensures.image)

pub returns-in_err-keep-clause-unchanged : goal.returns-in_err-keep-clause-unchanged
returns-in_err-keep-clause-unchanged c =
    on_err c.from_residual-in_err-keep.result
    (unkept c.args.self.now c.prepare.new.self c.keep-2.new.self (prepared c.args.self.now c.prepare.new.self c.prepare.ensures.lines c.prepare.ensures.image)
    c.in_err-keep.ensures.unchanged c.in_err-keep.ensures.work)

pub returns-clause-added : goal.returns-clause-added
returns-clause-added c =
    worked c.args.self.now c.prepare.new.self c.keep-2.new.self c.emit.new.self c.args.text.now c.args.checked.now
    c.in_ok-waiting.field-0.waiting c.in_ok-waiting.field-0.emitted c.after-at.result
    (sym c.is_some.ensures ∙ c.if-is_some.false) c.prepare.ensures.lines c.prepare.ensures.image c.after-at.ensures
    (subst (λ (at : Location). AssemblesBy c.prepare.new.self.symbols (c.prepare.new.self.taken + 1) at c.args.text.now
    (model_of_statement c.args.checked.now.parsed.statement) c.in_ok-waiting.field-0.waiting c.in_ok-waiting.field-0.emitted)
    (sym c.after-at.ensures) c.in_ok-waiting.ensures)
    c.in_ok-keep.ensures.kept c.keep-2.ensures.work c.keep-2.ensures.still c.emit.ensures.known
    (subst (λ waits. Emits c.keep-2.new.self c.after-at.result c.in_ok-waiting.field-0.emitted waits c.emit.new.self) c.is_some-waits.ensures
    c.emit.ensures.emits)
