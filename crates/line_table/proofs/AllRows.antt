-- The rows of the table in one list, in the order of the source's lines.
use Rattle.std.proofs.Common.{if◌then◌else◌, List, ◌++◌, map}
use Rattle.std.specs.Prelude.{nat_eq}
use Rattle.asm_defs.specs.declared.location.Location.{Location}
use Rattle.asm_defs.specs.declared.location.Part.TheVariants as part
use Rattle.line_table.specs.declared.line_row.LineRow.{LineRow}
use Rattle.line_table.specs.declared.rows.tables.TheConstants.{TABLE_ROWS}
use Rattle.line_table.specs.declared.rows.routines.TheConstants.{ROUTINE_ROWS}
use Rattle.line_table.specs.declared.rows.operations.TheConstants.{OPERATION_ROWS}
use Rattle.line_table.specs.declared.rows.flow.TheConstants.{FLOW_ROWS}
use Rattle.line_table.specs.declared.rows.copy.TheConstants.{COPY_ROWS}
use Rattle.line_table.specs.Table.{Row, nothing}

abbrev pub table : List Row
table = TABLE_ROWS ++ (ROUTINE_ROWS ++ (OPERATION_ROWS ++ (FLOW_ROWS ++ COPY_ROWS)))

abbrev pub as_row : Row → LineRow
as_row row = record { place = row.0; count = row.1; words = row.2 }

abbrev pub rows : List LineRow
rows = map as_row table

abbrev pub no_row : LineRow
no_row = as_row nothing

-- Where the line of a row stands: an address, or relocatable 0, where a source starts.
abbrev pub location_of : LineRow → Location
location_of row =
    if nat_eq row.place 0
    then record { part = part.Relocatable; number = 0 }
    else record { part = part.Absolute; number = row.place }
