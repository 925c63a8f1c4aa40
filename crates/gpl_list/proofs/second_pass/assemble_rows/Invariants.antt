use Rattle.std.proofs.Common.{ℕ, List, []}
use Rattle.gpl_source_defs.specs.Locations.{Line}
use Rattle.gpl_list.specs.Reading.{Describes, onto}
use Rattle.gpl_list.proofs.SecondPassLaws.{Going}
use Rattle.gpl_list.proofs.second_pass.assemble_rows.Given as goal

-- some lines are assembled, and others are left
abbrev pub invariant-loop-row : goal.invariant-loop-row
invariant-loop-row l =
    (texts : List (ℕ × List ℕ)) → (rest : List Line) → Describes texts l.names [] rest l.fn.rows.items
    → Going texts l.names (onto rest []) l.row-iterator.rest.items l.image l.assembled_lines.items
