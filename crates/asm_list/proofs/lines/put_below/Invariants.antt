use Rattle.std.proofs.Common.{◌≡◌, ◌++◌, length}
use Rattle.asm_list.specs.Adding.{texts_in, below}
use Rattle.asm_list.proofs.lines.put_below.Given as goal

abbrev pub invariant-loop-rest : goal.invariant-loop-rest
invariant-loop-rest l = texts_in l.rows.items ++ below l.place l.rest ≡ texts_in l.fn.rows.items ++ below l.fn.at l.fn.text

abbrev pub decreases-loop-rest : goal.decreases-loop-rest
decreases-loop-rest l = length l.rest
