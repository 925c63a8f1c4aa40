use Rattle.std.proofs.Common.{◌≡◌, ◌++◌, length, map}
use Rattle.asm_list_defs.specs.Rows.{lines_rows}
use Rattle.bench_shelf.specs.Listed.{listed_line}
use Rattle.asm_list.specs.Adding.{texts_in, known_to, rows_by_names}
use Rattle.asm_list.proofs.shown.Lister.put_lines.Given as goal

abbrev pub invariant-loop-rest : goal.invariant-loop-rest
invariant-loop-rest l =
    texts_in l.rows.items ++ lines_rows l.before (map (listed_line (known_to l.self)) l.rest)
    ≡ texts_in l.fn.rows.items ++ rows_by_names (known_to l.self) l.lines

abbrev pub decreases-loop-rest : goal.decreases-loop-rest
decreases-loop-rest l = length l.rest
