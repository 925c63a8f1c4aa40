use Rattle.std.proofs.Common.{◌≡◌, true, ◌<◌, ◌+◌, ◌*◌, get_or, sym, arith}
use Rattle.source_defs.specs.Characters.{is_digit}
use Rattle.source_defs.specs.Numbers.{digit_value}
use Rattle.source_defs.proofs.NumberLaws.{decimal_above}
use Rattle.asm_text.proofs.numbers.decimal_up_to.Goals as goal

pub returns-then-value-limit-clause-value : goal.returns-then-value-limit-clause-value
returns-then-value-limit-clause-value c =
    let digits = c.args.digits.now in
    let k = c.loop-byte.byte-index in
    let is : is_digit (get_or digits k 0) ≡ true = sym c.if-not-is_ascii_digit.ensures.value in
    let digit : c.from.result ≡ digit_value (get_or digits k 0) = rw is c.from.ensures in
    let above : c.args.limit < c.loop-byte.value * 10 + digit_value (get_or digits k 0) = omega arith in
    sym (decimal_above c.args.limit digits k c.loop-byte.value c.loop-byte.invariant.value (omega arith) above)
