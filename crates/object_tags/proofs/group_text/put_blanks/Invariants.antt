use Rattle.std.proofs.Common.{◌≡◌, ◌++◌, replicate}
use Rattle.object_tags.proofs.group_text.put_blanks.Given as goal

abbrev pub invariant-loop : goal.invariant-loop
invariant-loop g l = l.text.items ≡ l.initial.text.items ++ replicate l.counter 0x20
