use Rattle.std.proofs.Common.{refl}
use Rattle.line_table.proofs.Places.{row_found}
use Rattle.line_table.proofs.table.row.Goals as goal

pub returns : goal.returns
returns c =
    row_found c.args.index _ c.row_of-found.result
    c.table_rows.result.now c.routine_rows.result.now c.operation_rows.result.now c.flow_rows.result.now c.copy_rows.result.now
    c.table_rows.ensures c.routine_rows.ensures c.operation_rows.ensures c.flow_rows.ensures c.copy_rows.ensures c.row_of-found.ensures refl c.requires
