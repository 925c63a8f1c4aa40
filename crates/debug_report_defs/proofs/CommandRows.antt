-- The code's table of commands has the rows of the definition.
use Rattle.std.proofs.Common.{◌≡◌, refl}
use Rattle.std.specs.Prelude.{map}
use Rattle.debug_report_defs.specs.declared.command.TheConstants.{COMMANDS}
use Rattle.debug_report_defs.specs.Words.{commands}

rows_are : map (λ row. (row.0.now, row.1.now, row.2)) COMMANDS ≡ commands
rows_are = refl
