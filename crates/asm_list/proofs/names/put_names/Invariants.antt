use Rattle.std.proofs.Common.{◌≡◌, ◌++◌, length}
use Rattle.asm_list.specs.Adding.{texts_in, rows_of_names}
use Rattle.asm_list.proofs.names.put_names.Given as goal

abbrev pub invariant-loop-rest : goal.invariant-loop-rest
invariant-loop-rest l = texts_in l.rows.items ++ rows_of_names l.known l.rest ≡ texts_in l.fn.rows.items ++ rows_of_names l.known l.lines

abbrev pub decreases-loop-rest : goal.decreases-loop-rest
decreases-loop-rest l = length l.rest
