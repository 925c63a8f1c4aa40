-- The usage line of `bench` shows the commands of the table, `link` without names of files, and not `watch`.
use Rattle.std.proofs.Common.{◌≡◌, ℕ, List, [], ◌∷◌, ◌++◌, refl}
use Rattle.std.specs.Prelude.{codes}
use Rattle.std.specs.List.{flat_map}
use Rattle.report_defs.specs.declared.command.CommandName.{CommandName}
use Rattle.report_defs.specs.declared.command.CommandName.TheVariants.{Link, Watch}
use Rattle.report_defs.specs.CommandTables.{CommandRow, usage_of}
use Rattle.report_defs.specs.Commands.{commands}
use Rattle.report_defs.specs.FaultLine.{usage_line}

abbrev shown_of_input : CommandRow CommandName → List (List ℕ)
shown_of_input (word, rest, Link) = word ∷ []
shown_of_input (word, rest, Watch) = []
shown_of_input (word, rest, name) = (word ++ rest) ∷ []

line_shows_table : usage_line ≡ usage_of (codes "ti_bench") (flat_map shown_of_input commands)
unfolding usage_line
line_shows_table = refl
