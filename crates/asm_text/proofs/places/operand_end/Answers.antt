use Rattle.std.proofs.Common.{◌<◌, ◌≤◌, length, sym, ◌∙◌, arith}
use Rattle.asm_text.proofs.Blanks.{field_goes_on, quotes_stay}
use Rattle.asm_text.proofs.places.operand_end.Goals as goal

pub loop-at-preserved-then-byte-gt39 : goal.loop-at-preserved-then-byte-gt39
loop-at-preserved-then-byte-gt39 c =
    let line = c.args.line.now in
    let at = c.loop-at.at in
    let inside : at < length line = omega arith in
    let after : c.args.start ≤ at = omega (arith, c.loop-at.auto.at) in
    let above = c.if-byte-gt39.true in
    record {
      apart = quotes_stay line at inside c.args.start after above ∙ c.loop-at.invariant.apart;
      none_before = sym (field_goes_on line at inside c.args.start after above) ∙ c.loop-at.invariant.none_before;
    }
