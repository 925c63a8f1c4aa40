-- The words of the command line of `ti_debug`.
use Rattle.std.specs.Prelude.{⊤, ℕ, ◌≤◌, List, [], ◌∷◌, map, codes, Option, Some, None}
use Rattle.std.specs.Option.{option_map, option_and_then}
use Rattle.report_defs.specs.CommandTables.{CommandRow, command_named, shown, usage_of}
use Rattle.report_defs.specs.Commands.{number_word, most_instructions}
use Rattle.gpl_counts.specs.Counts.{most_shown_steps}
use Rattle.debug_report_defs.specs.declared.command.DebugCommand.{DebugCommand}
use Rattle.debug_report_defs.specs.declared.command.DebugCommand.TheVariants.{Glist, Grun, Gsteps, Gcounts, Steps}
use Rattle.debug_report_defs.specs.declared.command.DebugCommand.TheVariants as command
use Rattle.debug_report_defs.specs.declared.command.DebugName.{DebugName}
use Rattle.debug_report_defs.specs.declared.command.DebugName.TheVariants as named

-- The commands by the words that name them, with what the usage line shows after each.
abbrev pub commands : List (CommandRow DebugName)
commands =
    (codes "glist", codes "", named.Glist) ∷ (codes "list", codes "", named.List)
    ∷ (codes "grun", codes " N", named.Grun) ∷ (codes "gsteps", codes " N", named.Gsteps)
    ∷ (codes "gcounts", codes " N", named.Gcounts) ∷ (codes "steps", codes " N", named.Steps) ∷ []

-- a command with the words after its name; those in any other shape are none
abbrev pub command_on : List (List ℕ) → DebugName → Option DebugCommand
command_on [] named.Glist = Some Glist
command_on [] named.List = Some command.List
command_on (word ∷ []) named.Grun = option_map Grun (number_word most_shown_steps word)
command_on (word ∷ []) named.Gsteps = option_map Gsteps (number_word most_shown_steps word)
command_on (word ∷ []) named.Gcounts = option_map Gcounts (number_word most_shown_steps word)
command_on (word ∷ []) named.Steps = option_map Steps (number_word most_instructions word)
command_on words name = None

abbrev pub debug_command : List (List ℕ) → Option DebugCommand
debug_command [] = None
debug_command (word ∷ words) = option_and_then (command_on words) (command_named commands word)

-- Profile: grun, gsteps and gcounts make at most 10,000,000 steps, and steps executes at most 10,000,000 instructions.
abbrev pub KeepsLimit : DebugCommand → Type 0
KeepsLimit Glist = ⊤
KeepsLimit command.List = ⊤
KeepsLimit (Grun limit) = limit ≤ most_shown_steps
KeepsLimit (Gsteps limit) = limit ≤ most_shown_steps
KeepsLimit (Gcounts limit) = limit ≤ most_shown_steps
KeepsLimit (Steps limit) = limit ≤ most_instructions

-- Profile: words that are no command are answered by how the program is called.
unfoldable pub debug_usage : List ℕ
debug_usage = usage_of (codes "ti_debug") (map shown commands)
