use Rattle.std.proofs.Common.{◌≡◌, ◌≤◌, ◌<◌, drop}
use Rattle.source_defs.specs.Numbers.{value_after, all_hexadecimal_digits}
use Rattle.asm_text.proofs.numbers.hexadecimal_number.Given as goal

-- what the digits so far stand for
abbrev pub invariant-loop-byte : goal.invariant-loop-byte
invariant-loop-byte l = record {
  value : value_after 16 l.value (drop l.byte-index l.digits) ≡ value_after 16 0 l.digits;
  digits : all_hexadecimal_digits (drop l.byte-index l.digits) ≡ all_hexadecimal_digits l.digits;
  none : l.byte-index ≤ 0 → l.value ≡ 0;
  one : l.byte-index ≤ 1 → l.value < 16;
  two : l.byte-index ≤ 2 → l.value < 256;
  three : l.byte-index ≤ 3 → l.value < 4096;
}
