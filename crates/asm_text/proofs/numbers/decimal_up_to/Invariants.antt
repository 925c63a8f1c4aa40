use Rattle.std.proofs.Common.{◌≡◌, ◌≤◌, drop}
use Rattle.source_defs.specs.Numbers.{value_after, all_digits}
use Rattle.asm_text.proofs.numbers.decimal_up_to.Given as goal

-- what the digits so far stand for
abbrev pub invariant-loop-byte : goal.invariant-loop-byte
invariant-loop-byte l = record {
  value : value_after 10 l.value (drop l.byte-index l.digits) ≡ value_after 10 0 l.digits;
  digits : all_digits (drop l.byte-index l.digits) ≡ all_digits l.digits;
  within : l.value ≤ l.limit;
}
