use Rattle.std.proofs.Common.{◌≡◌, ◌++◌, length, map}
use Rattle.asm_list_defs.specs.Rows.{name_row}
use Rattle.asm_list.specs.Adding.{texts_in, named_rows}
use Rattle.asm_list.proofs.names.put_names_in.Given as goal

abbrev pub invariant-loop-rest : goal.invariant-loop-rest
invariant-loop-rest l =
    texts_in l.rows.items ++ map name_row (named_rows l.known l.line l.rest)
    ≡ texts_in l.fn.rows.items ++ map name_row (named_rows l.known l.line l.names)

abbrev pub decreases-loop-rest : goal.decreases-loop-rest
decreases-loop-rest l = length l.rest
