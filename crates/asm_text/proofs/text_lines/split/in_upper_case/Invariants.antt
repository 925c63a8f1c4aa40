use Rattle.std.proofs.Common.{◌≡◌, ◌-◌, length, take, drop, replicate}
use Rattle.std.specs.Prelude.{map}
use Rattle.source_defs.specs.Characters.{upper_case}
use Rattle.source_defs.specs.Names.{all_letters_or_digits}
use Rattle.asm_text.proofs.text_lines.split.in_upper_case.Given as goal

abbrev pub invariant-loop-at : goal.invariant-loop-at
invariant-loop-at l = record {
  left : all_letters_or_digits (drop l.at l.field) ≡ all_letters_or_digits l.field;
  eight : length l.letters ≡ 8;
  zeros : drop l.at l.letters ≡ replicate (8 - l.at) 0;
  upper : take l.at l.letters ≡ map upper_case (take l.at l.field);
}
