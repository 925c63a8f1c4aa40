-- The words of the program's command line.
use Rattle.std.specs.Prelude.{ℕ, ◌+◌, Bool, ◌&&◌, nat_eq, nat_le, if◌then◌else◌, List, [], ◌∷◌, length, take}
use Rattle.std.specs.Prelude.{drop, map, slice_index, codes, Option, Some, None}
use Rattle.std.specs.Option.{option_map, option_and_then}
use Rattle.std.specs.List.{list_all}
use Rattle.source_defs.specs.Names.{same_text}
use Rattle.gpl_defs.specs.declared.instruction.Space.{Space}
use Rattle.gpl_defs.specs.declared.instruction.Space.TheVariants.{Cpu, Vdp}
use Rattle.shelf_defs.specs.Files.{is_file_name}
use Rattle.watch_defs.specs.declared.item.Item.{Item}
use Rattle.watch_defs.specs.declared.item.Item.TheVariants.{Range, Pc}
use Rattle.watch_defs.specs.Items.{base_of, size_of, most_items}
use Rattle.report_defs.specs.declared.command.Command.{Command}
use Rattle.report_defs.specs.declared.command.Command.TheVariants as command
use Rattle.report_defs.specs.declared.command.CommandName.{CommandName}
use Rattle.report_defs.specs.declared.command.CommandName.TheVariants as named
use Rattle.report_defs.specs.CommandTables.{command_named, shown, usage_of}
use Rattle.report_defs.specs.Commands.{number_word, most_steps, address_word, commands, command_on}

-- What only the program with files has: `asm`, whose source may copy files; `link` with names of files; and `watch`
-- with a number of steps and with items.
pub data FileCommand : Type 0 where
  AsmFiles : FileCommand
  LinkFiles : List (List ℕ) → FileCommand
  Watch : ℕ → List Item → FileCommand

-- What the words say: such a command, or another one, which reads no file.
pub data ProgramCommand : Type 0 where
  OverFiles : FileCommand → ProgramCommand
  Plain : Command → ProgramCommand

-- Profile: `link` takes up to 16 names of files.
abbrev pub most_files : ℕ
most_files = 16

abbrev pub are_file_names : List (List ℕ) → Bool
are_file_names words = nat_le (length words) most_files && list_all is_file_name words

abbrev pub link_command : List (List ℕ) → Option FileCommand
link_command words = if are_file_names words then Some (LinkFiles words) else None

-- Profile: a range is an address, `+`, and its size, a decimal number from 1 on without a leading zero.
abbrev pub size_word : List ℕ → Option ℕ
size_word text = if nat_eq (slice_index text 0) 0x2B then number_word 0x4000 (drop 1 text) else None

abbrev pub range_in : Space → ℕ → ℕ → Option Item
range_in space at size =
    if nat_le 1 size && nat_le (base_of space) at && nat_le (at + size) (base_of space + size_of space)
    then Some (Range space at size)
    else None

abbrev pub range_word : Space → List ℕ → Option Item
range_word space text =
    option_and_then (λ at. option_and_then (λ size. range_in space at size) (size_word (drop 4 text)))
    (address_word (take 4 text))

-- Profile: an item is `pad:AAAA+LEN` or `vdp:AAAA+LEN`, a range in what a program sees, or `pc:AAAA`.
abbrev pub item_word : List ℕ → Option Item
item_word word =
    if same_text (take 4 word) (codes "pad:") then range_word Cpu (drop 4 word)
    else if same_text (take 4 word) (codes "vdp:") then range_word Vdp (drop 4 word)
    else if same_text (take 3 word) (codes "pc:") then option_map Pc (address_word (drop 3 word))
    else None

abbrev pub item_words : List (List ℕ) → Option (List Item)
item_words [] = Some []
item_words (word ∷ words) =
    option_and_then (λ item. option_map (λ items. item ∷ items) (item_words words)) (item_word word)

-- Profile: one to eight words say what is watched.
abbrev pub some_items : List (List ℕ) → Option (List Item)
some_items words =
    if nat_le 1 (length words) && nat_le (length words) most_items then item_words words else None

abbrev pub watched_command : List (List ℕ) → ℕ → Option FileCommand
watched_command words limit = option_map (Watch limit) (some_items words)

abbrev pub watch_command : List (List ℕ) → Option FileCommand
watch_command [] = None
watch_command (word ∷ words) = option_and_then (watched_command words) (number_word most_steps word)

-- a command over one input; `asm` alone reads files beside it
abbrev pub over_input : Command → ProgramCommand
over_input command.Asm = OverFiles AsmFiles
over_input found = Plain found

-- Profile: words in any other shape are no command.
abbrev pub program_command_on : List (List ℕ) → CommandName → Option ProgramCommand
program_command_on (word ∷ words) named.Link = option_map OverFiles (link_command (word ∷ words))
program_command_on words named.Watch = option_map OverFiles (watch_command words)
program_command_on words name = option_map over_input (command_on words name)

abbrev pub program_command : List (List ℕ) → Option ProgramCommand
program_command [] = None
program_command (word ∷ words) = option_and_then (program_command_on words) (command_named commands word)

-- Profile: words that are no command are answered by how the program is called.
unfoldable pub program_usage : List ℕ
program_usage = usage_of (codes "ti_bench") (map shown commands)
