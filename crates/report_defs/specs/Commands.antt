-- The words of the command line.
use Rattle.std.specs.Prelude.{⊤, ℕ, ◌≤◌, ◌==◌, ◌%◌, Bool, true, false, ◌&&◌}
use Rattle.std.specs.Prelude.{nat_lt, if◌then◌else◌, List, [], ◌∷◌, length, slice_index, codes, Option, Some, None}
use Rattle.std.specs.Option.{option_map, option_and_then}
use Rattle.source_defs.specs.Numbers.{decimal_up_to, hexadecimal_number}
use Rattle.report_defs.specs.declared.command.Command.{Command}
use Rattle.report_defs.specs.declared.command.Command.TheVariants.{Asm, Gasm, Dis, Gdis, Link, Exec, Interp}
use Rattle.report_defs.specs.declared.command.Command.TheVariants.{Run, Trace, Demo}
use Rattle.report_defs.specs.declared.command.CommandName.{CommandName}
use Rattle.report_defs.specs.declared.command.CommandName.TheVariants as named
use Rattle.report_defs.specs.CommandTables.{CommandRow, command_named}

-- a 0 with more after it
abbrev pub has_leading_zero : List ℕ → Bool
has_leading_zero word = nat_lt 1 (length word) && (slice_index word 0 == 0x30)

-- Profile: a number is decimal digits without a leading zero, up to a limit.
abbrev pub number_word : ℕ → List ℕ → Option ℕ
number_word limit word =
    if has_leading_zero word then None else decimal_up_to limit word

-- Profile: exec makes at most 10,000,000 instructions.
abbrev pub most_instructions : ℕ
most_instructions = 10000000

-- Profile: run, trace and watch make at most 100,000 steps; commands that show more are not of this program.
abbrev pub most_steps : ℕ
most_steps = 100000

-- Profile: demo makes its program from a number from 1 to 500.
abbrev pub most_blocks : ℕ
most_blocks = 500

abbrev pub demo_of : ℕ → Option Command
demo_of number = if number == 0 then None else Some (Demo number)

-- Profile: an address is four hexadecimal digits of either case.
abbrev pub address_word : List ℕ → Option ℕ
address_word word = if length word == 4 then hexadecimal_number word else None

-- Profile: a listing of memory begins at an even address, and one of GROM at any.
abbrev pub dis_at : ℕ → Option Command
dis_at address = if address % 2 == 0 then Some (Dis address) else None

-- a command keeps the limit of its number, where it has one
abbrev pub KeepsLimit : Command → Type 0
KeepsLimit (Exec limit) = limit ≤ most_instructions
KeepsLimit (Run limit) = limit ≤ most_steps
KeepsLimit (Trace limit) = limit ≤ most_steps
KeepsLimit (Demo number) = number ≤ most_blocks
KeepsLimit command = ⊤

-- The commands by the words that name them, with what the usage line shows after each. `bench` has no `watch`, and its
-- `link` takes no names of files.
abbrev pub commands : List (CommandRow CommandName)
commands =
    (codes "asm", codes "", named.Asm) ∷ (codes "link", codes " [NAME ...]", named.Link)
    ∷ (codes "dis", codes " ADDR", named.Dis) ∷ (codes "exec", codes " N", named.Exec)
    ∷ (codes "gasm", codes "", named.Gasm) ∷ (codes "gdis", codes " ADDR", named.Gdis)
    ∷ (codes "interp", codes "", named.Interp) ∷ (codes "run", codes " N", named.Run)
    ∷ (codes "trace", codes " N", named.Trace) ∷ (codes "demo", codes " K", named.Demo)
    ∷ (codes "watch", codes " N ITEM ...", named.Watch) ∷ []

-- a command of one word
abbrev pub command_alone : CommandName → Option Command
command_alone named.Asm = Some Asm
command_alone named.Gasm = Some Gasm
command_alone named.Link = Some Link
command_alone named.Interp = Some Interp
command_alone name = None

-- a command with a word after its name
abbrev pub command_with : CommandName → List ℕ → Option Command
command_with named.Exec word = option_map Exec (number_word most_instructions word)
command_with named.Run word = option_map Run (number_word most_steps word)
command_with named.Trace word = option_map Trace (number_word most_steps word)
command_with named.Demo word = option_and_then demo_of (number_word most_blocks word)
command_with named.Dis word = option_and_then dis_at (address_word word)
command_with named.Gdis word = option_map Gdis (address_word word)
command_with name word = None

-- a command with the words after its name; those in any other shape are no command of `bench`
abbrev pub command_on : List (List ℕ) → CommandName → Option Command
command_on [] name = command_alone name
command_on (word ∷ []) name = command_with name word
command_on (word ∷ next ∷ others) name = None

abbrev pub command_of : List (List ℕ) → Option Command
command_of [] = None
command_of (word ∷ words) = option_and_then (command_on words) (command_named commands word)

-- Profile: each command reads its input but interp and demo.
abbrev pub reads : Command → Bool
reads Interp = false
reads (Demo number) = false
reads command = true
