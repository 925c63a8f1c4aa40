use Rattle.std.proofs.Common.{◌≡◌, ◌+◌, [], length, drop, sym, ap, subst, arith}
use Rattle.std.proofs.lemmas.List.{drop_all}
use Rattle.source_defs.specs.Orders.{onto}
use Rattle.expression_defs.specs.Layout.{assembled_lines}
use Rattle.asm_defs.specs.Modules.{assembled_line}
use Rattle.asm_core.specs.declared.error.AsmError.{AsmError}
use Rattle.asm_core.specs.Finishing.{RefusesAt}
use Rattle.asm_core.proofs.ProgressLaws.{IsSoFar, first_so_far, next_so_far, so_far_refused, all_assembled, first_waits}
use Rattle.asm_core.proofs.lines.AsmLines.resolve_all.Goals as goal

pub loop-pending-init : goal.loop-pending-init
loop-pending-init c = λ unused order founds known resolved.
    first_so_far unused c.args.self.now.symbols order founds c.args.self.now.waiting.items c.args.output.now known resolved

pub loop-pending-preserved : goal.loop-pending-preserved
loop-pending-preserved c = λ unused order founds known resolved.
    let names = c.args.self.now.symbols in
    let items = c.args.self.now.waiting.items in
    let index = c.loop-pending.pending-index in
    let pending = c.pending-item.result in
    let front = first_waits c.as_slice-pending-items.result.now items index pending c.as_slice-pending-items.ensures.value c.loop-pending-test.true
    c.pending-item.is in
    let so_far = subst (λ waiting. IsSoFar unused names order founds waiting c.args.output.now c.loop-pending.output) front
    (c.loop-pending.invariant unused order founds known resolved) in
    next_so_far unused names order founds pending (drop (index + 1) items) c.args.output.now c.loop-pending.output c.resolve.new.self so_far
    (c.in-Ok.ensures unused)

pub returns-in-Err : goal.returns-in-Err
returns-in-Err c = λ unused order founds known resolved.
    let names = c.args.self.now.symbols in
    let items = c.args.self.now.waiting.items in
    let index = c.loop-pending.pending-index in
    let pending = c.pending-item.result in
    let front = first_waits c.as_slice-pending-items.result.now items index pending c.as_slice-pending-items.ensures.value c.loop-pending-test.true
    c.pending-item.is in
    let so_far = subst (λ waiting. IsSoFar unused names order founds waiting c.args.output.now c.loop-pending.output) front
    (c.loop-pending.invariant unused order founds known resolved) in
    subst (λ (error : AsmError). RefusesAt error (assembled_lines (assembled_line names) (onto [] order))) (sym c.refusal.ensures)
    (so_far_refused unused names order founds pending (drop (index + 1) items) c.args.output.now c.loop-pending.output c.resolve.new.self so_far
    c.in-Err.failure (c.in-Err.ensures unused))

pub returns : goal.returns
returns c = λ unused order founds known resolved.
    let items = c.args.self.now.waiting.items in
    let none : drop c.loop-pending.pending-index items ≡ [] =
    drop_all c.loop-pending.pending-index items (omega (arith, c.loop-pending-test.false, ap length c.as_slice-pending-items.ensures.value)) in
    all_assembled unused c.args.self.now.symbols order founds c.args.output.now c.loop-pending.output
    (subst (λ waiting. IsSoFar unused c.args.self.now.symbols order founds waiting c.args.output.now c.loop-pending.output) none
    (c.loop-pending.invariant unused order founds known resolved))
