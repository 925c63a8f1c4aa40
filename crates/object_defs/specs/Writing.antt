-- The written text of a module.
--
-- Editor/Assembler manual, "Tagged object code": every group is a tag and four hexadecimal digits, with a name after
-- some tags, and a line is groups, a checksum, and the tag F.
use Rattle.std.specs.Prelude.{ℕ, ◌+◌, ◌%◌, nat_le, if◌then◌else◌, List, [], ◌∷◌, ◌++◌, length, map, Option, Some, None}
use Rattle.std.specs.List.{concat}
use Rattle.object_defs.specs.declared.spot.Spot.{Spot}
use Rattle.object_defs.specs.declared.spot.Piece.{Piece}
use Rattle.object_defs.specs.declared.tag.Tag.{Tag}
use Rattle.object_defs.specs.declared.tag.Tag.TheVariants as tags
use Rattle.object_defs.specs.Modules.{Module, Definition, Reference, number_of, moved, same_spot}
use Rattle.source_defs.specs.Digits.{word_digits}
use Rattle.object_defs.specs.Digits.{four_digits, padded, checksum}
use Rattle.object_defs.specs.Tags.{tag_character, kind_of}

-- a tag and four digits
abbrev pub group : Tag → ℕ → List ℕ
group tag number = tag_character tag ∷ word_digits number

abbrev pub header_text : ℕ → List ℕ → List ℕ
header_text size name = group tags.Header size ++ padded 8 name

abbrev pub address_text : Spot → List ℕ
address_text at = group (tags.Address (kind_of at)) (number_of at)

abbrev pub word_text : Spot → List ℕ
word_text word = group (tags.Word (kind_of word)) (number_of word)

abbrev pub definition_text : Definition → List ℕ
definition_text definition =
    group (tags.Definition (kind_of definition.value)) (number_of definition.value) ++ padded 6 definition.name

abbrev pub reference_text : Reference → List ℕ
reference_text reference =
    group (tags.Reference (kind_of reference.last)) (number_of reference.last) ++ padded 6 reference.name

abbrev pub entry_text : Spot → List ℕ
entry_text entry = group (tags.Entry (kind_of entry)) (number_of entry)

-- what is written: a group, or a word that is at its place
pub data Item : Type 0 where
  Group : List ℕ → Item
  Placed : Piece → Item

abbrev pub entry_items : Option Spot → List Item
entry_items None = []
entry_items (Some entry) = Group (entry_text entry) ∷ []

-- Profile: the header, the words, the DEFs, the REFs, the entry, in this order.
abbrev pub items_of : Module → List Item
items_of m =
    Group (header_text m.size m.name)
    ∷ (map Placed m.pieces ++ (map (λ definition. Group (definition_text definition)) m.defs
    ++ (map (λ reference. Group (reference_text reference)) m.refs ++ entry_items m.entry)))

-- the groups of a line so far, and the place after the last word among them
pub record Line : Type 0 where
  pub text : List ℕ
  pub next : Option Spot

abbrev pub empty_line : Line
empty_line = record { text = []; next = None }

abbrev pub is_next : Option Spot → Spot → List ℕ → List ℕ → List ℕ
is_next None at there elsewhere = elsewhere
is_next (Some next) at there elsewhere = if same_spot next at then there else elsewhere

-- The text of a group, or of a word with its place; `next` is the place after the word before it on the same line.
-- Profile: a word has an address group before it if its place is not that one.
abbrev pub item_text : Option Spot → Item → List ℕ
item_text next (Group text) = text
item_text next (Placed piece) =
    is_next next piece.at (word_text piece.word) (address_text piece.at ++ word_text piece.word)

abbrev pub next_after : Option Spot → Item → Option Spot
next_after next (Group text) = next
next_after next (Placed piece) = Some (moved piece.at 2)

abbrev pub with_item : Line → Item → Line
with_item line item = record { text = line.text ++ item_text line.next item; next = next_after line.next item }

-- Profile: the groups of a line take at most 70 columns, before its checksum.
abbrev pub group_columns : ℕ
group_columns = 70

-- the groups, the checksum up to its own tag, and the end of the line
abbrev pub summed : List ℕ → List ℕ
summed text =
    text ++ (group tags.Sum (checksum (text ++ tag_character tags.Sum ∷ [])) ++ tag_character tags.EndOfLine ∷ [])

-- Profile: a line is padded to column 76; then stand its number in four digits and a line feed.
abbrev pub numbered : ℕ → List ℕ → List ℕ
numbered number text = padded 76 text ++ (four_digits number ++ 0x0A ∷ [])

abbrev pub line_text : ℕ → List ℕ → List ℕ
line_text number text = numbered number (summed text)

abbrev pub last_line_text : ℕ → List ℕ
last_line_text number = numbered number (tag_character tags.EndOfModule ∷ [])

-- Profile: lines count from 1 modulo 10,000.
abbrev pub number_after : ℕ → ℕ
number_after number = (number + 1) % 10000

-- The lines from one that is begun, with its number, to the one that ends the module.
-- Profile: an item that does not fit in the columns begins a new line, an address group together with its word.
unfoldable pub lines_from : ℕ → Line → List Item → List (List ℕ)
lines_from number line [] = line_text number line.text ∷ last_line_text (number_after number) ∷ []
lines_from number line (item ∷ items) =
    if nat_le (length line.text + length (item_text line.next item)) group_columns
    then lines_from number (with_item line item) items
    else line_text number line.text ∷ lines_from (number_after number) (with_item empty_line item) items

-- the lines of the text of a module, each with its line feed
abbrev pub written_lines : Module → List (List ℕ)
written_lines m = lines_from 1 empty_line (items_of m)

-- the text of a module: its lines, one after the other
abbrev pub written : Module → List ℕ
written m = concat (written_lines m)
