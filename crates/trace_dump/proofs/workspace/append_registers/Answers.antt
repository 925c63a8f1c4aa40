use Rattle.std.proofs.Common.{◌≡◌, ◌+◌, ◌-◌, ◌++◌, sym, ap, ◌∙◌, append_assoc, arith}
use Rattle.std.specs.List.{flat_map, range_with_len}
use Rattle.report_defs.specs.Dump.{register_text, eight_registers}
use Rattle.report_defs.proofs.Ranges.{more_from}
use Rattle.trace_dump.proofs.workspace.append_registers.Goals as goal

pub loop-number-preserved : goal.loop-number-preserved
loop-number-preserved c =
    let text = register_text c.args.machine.now.cpu in
    let before = c.args.line.now.items in
    let n = c.loop-number.number - c.args.first in
    let next : c.loop-number.number + 1 - c.args.first ≡ n + 1 = omega (arith, c.loop-number.auto.number) in
    let this : c.args.first + n ≡ c.loop-number.number = omega (arith, c.loop-number.auto.number) in
    let more : flat_map text (range_with_len c.args.first n) ++ text c.loop-number.number ≡ flat_map text (range_with_len c.args.first (n + 1)) =
    ap (λ k. flat_map text (range_with_len c.args.first n) ++ text k) (sym this) ∙ sym (more_from text c.args.first n) in
    rw next record {
      bytes = c.append_register.ensures.bytes ∙ (ap (λ t. t ++ text c.loop-number.number) c.loop-number.invariant.bytes ∙ (append_assoc before _ _ ∙ ap (λ t. before ++ t) more));
      len = omega (arith, c.append_register.ensures.len, c.loop-number.invariant.len);
    }

pub returns-clause-bytes : goal.returns-clause-bytes
unfolding eight_registers
returns-clause-bytes c =
    let all : c.loop-number.number - c.args.first ≡ 8 = omega (arith, c.loop-number-test.false, c.loop-number.auto.number, c.loop-number.auto.number-end) in
    rw all at c.loop-number.invariant.bytes
