-- The second step of reading: the modules that the groups of a text give, or its first bad place.
--
-- Editor/Assembler manual, "Tagged object code".
use Rattle.std.specs.Prelude.{
  ℕ,
  ◌+◌,
  ◌*◌,
  ◌%◌,
  ◌==◌,
  Bool,
  not,
  ◌&&◌,
  nat_lt,
  nat_le,
  if◌then◌else◌,
  List,
  [],
  ◌∷◌,
  ◌++◌,
  length,
  map,
  slice_range,
  Option,
  Some,
  None,
  is_some,
  Result,
  Ok,
  Err,
}
use Rattle.std.specs.Int.{div_ceil}
use Rattle.std.specs.List.{list_any, range_with_len}
use Rattle.source_defs.specs.declared.text.Line.{Line}
use Rattle.source_defs.specs.Characters.{is_line_feed}
use Rattle.source_defs.specs.Lines.{part, lines}
use Rattle.source_defs.specs.Refusals.{Refusal, ◌>>=◌, at_line}
use Rattle.object_defs.specs.declared.form.TextForm.{TextForm}
use Rattle.object_defs.specs.declared.form.TextForm.TheVariants.{Plain, Compressed}
use Rattle.object_defs.specs.declared.spot.Spot.{Spot}
use Rattle.object_defs.specs.declared.spot.Spot.TheVariants.{Relocatable}
use Rattle.object_defs.specs.declared.spot.Piece.{Piece}
use Rattle.object_defs.specs.declared.causes.TagCause.{TagCause}
use Rattle.object_defs.specs.declared.causes.TagCause.TheVariants.{BadTag, NoEnd, TooMany}
use Rattle.object_defs.specs.declared.tag.Tag.{Tag}
use Rattle.object_defs.specs.declared.tag.Tag.TheVariants as tags
use Rattle.object_defs.specs.Modules.{Module, Definition, Reference, moved, even, most_modules, most_words, most_names}
use Rattle.object_defs.specs.Fields.{all_blank}
use Rattle.object_defs.specs.Groups.{
  Group,
  Header,
  Entry,
  Referred,
  Defined,
  Address,
  Word,
  EndOfModule,
  FoundGroup,
  tag_found,
  character_found,
  group_found,
  groups_of,
}

-- A module from its groups, of which the nearest comes first.

-- the last address group, or relocatable 0
-- Profile: the lowest bit of a load address is dropped.
abbrev pub last_address : List Group → Spot
last_address [] = Relocatable 0
last_address (Address at ∷ before) = even at
last_address (_ ∷ before) = last_address before

-- the number of words after the last address group
abbrev pub words_since : List Group → ℕ
words_since [] = 0
words_since (Address at ∷ before) = 0
words_since (Word word ∷ before) = words_since before + 1
words_since (_ ∷ before) = words_since before

-- The place of a word: the last address group before it in its module, or relocatable 0, plus twice the number of
-- words between.
abbrev pub place_after : List Group → Spot
place_after before = moved (last_address before) (2 * words_since before)

-- the words at their places, in order
abbrev pub pieces_of : List Group → List Piece
pieces_of [] = []
pieces_of (Word word ∷ before) = pieces_of before ++ record { at = place_after before; word = word } ∷ []
pieces_of (_ ∷ before) = pieces_of before

-- the names that the module defines, and those that it needs, in order
abbrev pub defs_of : List Group → List Definition
defs_of [] = []
defs_of (Defined definition ∷ before) = defs_of before ++ definition ∷ []
defs_of (_ ∷ before) = defs_of before

abbrev pub refs_of : List Group → List Reference
refs_of [] = []
refs_of (Referred reference ∷ before) = refs_of before ++ reference ∷ []
refs_of (_ ∷ before) = refs_of before

-- where the module is entered, if a group says so
abbrev pub entry_of : List Group → Option Spot
entry_of [] = None
entry_of (Entry at ∷ before) = Some at
entry_of (_ ∷ before) = entry_of before

-- the length of the relocatable code and the name, which the first group says
abbrev pub size_of : List Group → ℕ
size_of [] = 0
size_of (Header size name ∷ before) = size
size_of (_ ∷ before) = size_of before

abbrev pub name_of : List Group → List ℕ
name_of [] = []
name_of (Header size name ∷ before) = name
name_of (_ ∷ before) = name_of before

-- what the groups of a module say
abbrev pub module_of : List Group → Module
module_of groups =
    record {
      name = name_of groups;
      size = size_of groups;
      pieces = pieces_of groups;
      defs = defs_of groups;
      refs = refs_of groups;
      entry = entry_of groups;
    }

-- Which tags may stand. Profile: a tag that may not, or that passes a limit, is refused before its fields are.

-- where no module is open and some have ended: a module begins with its header
abbrev pub is_allowed_first : ℕ → ℕ → Option Tag → Result Tag TagCause
is_allowed_first ended character (Some tags.Header) = if nat_le most_modules ended then Err TooMany else Ok tags.Header
is_allowed_first ended character _ = Err (BadTag character)

-- after the groups of its module: neither a second header nor a second entry
abbrev pub is_allowed_after : Module → ℕ → Option Tag → Result Tag TagCause
is_allowed_after m character None = Err (BadTag character)
is_allowed_after m character (Some tags.Header) = Err (BadTag character)
is_allowed_after m character (Some (tags.Entry kind)) =
    if is_some m.entry then Err (BadTag character) else Ok (tags.Entry kind)
is_allowed_after m character (Some (tags.Reference kind)) =
    if nat_le most_names (length m.refs) then Err TooMany else Ok (tags.Reference kind)
is_allowed_after m character (Some (tags.Definition kind)) =
    if nat_le most_names (length m.defs) then Err TooMany else Ok (tags.Definition kind)
is_allowed_after m character (Some (tags.Word kind)) =
    if nat_le most_words (length m.pieces) then Err TooMany else Ok (tags.Word kind)
is_allowed_after m character (Some tag) = Ok tag

-- no groups: no module is open
abbrev pub is_allowed : ℕ → List Group → ℕ → Option Tag → Result Tag TagCause
is_allowed ended [] character tag = is_allowed_first ended character tag
is_allowed ended (group ∷ before) character tag = is_allowed_after (module_of (group ∷ before)) character tag

-- The groups of a text, one after the other.

-- the modules that have ended, and the groups of the one that has not: the nearest first, none where no module is open
pub record Found : Type 0 where
  pub modules : List Module
  pub current : List Group

abbrev pub nothing_found : Found
nothing_found = record { modules = []; current = [] }

-- the groups with one more, or the module that it ends
abbrev pub added : Found → Group → Found
added found EndOfModule = record { modules = found.modules ++ module_of found.current ∷ []; current = [] }
added found group = record found { current = group ∷ found.current }

-- A group is added where its tag may stand and it is whole.
abbrev pub with_group : Found → FoundGroup → Result Found TagCause
with_group found at = do
  tag ← is_allowed (length found.modules) found.current (character_found at) (tag_found at)
  group ← group_found at
  Ok (added found group)

-- the groups of a line, up to the first that is refused
abbrev pub with_groups : Found → List FoundGroup → Result Found TagCause
with_groups found [] = Ok found
with_groups found (group ∷ groups) = with_group found group >>= λ found. with_groups found groups

-- a line or a record of a text
pub record NumberedLine : Type 0 where
  pub number : ℕ
  pub text : List ℕ

-- the lines of a text, up to the first that is refused, by its number
abbrev pub with_lines : TextForm → Found → List NumberedLine → Result Found (Refusal TagCause)
with_lines form found [] = Ok found
with_lines form found (line ∷ lines) =
    at_line line.number (with_groups found (groups_of form line.text)) >>= λ found. with_lines form found lines

-- the number of the last line that is not blank, or one from before
abbrev pub last_number : ℕ → List NumberedLine → ℕ
last_number last [] = last
last_number last (line ∷ lines) = last_number (if all_blank line.text then last else line.number) lines

-- the modules, where each has its end
-- Profile: a missing end is refused at the last line that is not blank.
abbrev pub ended : ℕ → List Module → List Group → Result (List Module) (Refusal TagCause)
ended last modules [] = Ok modules
ended last modules (group ∷ groups) = Err (record { line = last; cause = NoEnd })

-- The form of a text, and its lines.

-- Profile: a text is compressed where its first byte is >01. All its modules have one form.
abbrev pub form_of : List ℕ → TextForm
form_of [] = Plain
form_of (byte ∷ text) = if byte == 0x01 then Compressed else Plain

abbrev pub has_line_feed : List ℕ → Bool
has_line_feed text = list_any is_line_feed text

-- Profile: a text without line feed whose length is a positive multiple of 80 is cut into records of 80 characters.
abbrev pub is_records : List ℕ → Bool
is_records text = not (has_line_feed text) && (nat_lt 0 (length text) && (length text % 80 == 0))

-- records count from 1, and the last one may be shorter
abbrev pub record_at : List ℕ → ℕ → NumberedLine
record_at text k = record { number = k + 1; text = slice_range text (80 * k) (80 * k + 80) }

abbrev pub records : List ℕ → List NumberedLine
records text = map (record_at text) (range_with_len 0 (div_ceil (length text) 80))

abbrev pub numbered_line : List ℕ → Line → NumberedLine
numbered_line text line = record { number = line.number; text = part text line.span }

-- the lines or the records of a text of a form
-- Profile: a compressed text is cut into records of 80 bytes, whatever bytes they hold.
abbrev pub lines_in : TextForm → List ℕ → List NumberedLine
lines_in Plain text = if is_records text then records text else map (numbered_line text) (lines text)
lines_in Compressed text = records text

abbrev pub text_lines : List ℕ → List NumberedLine
text_lines text = lines_in (form_of text) text

-- the modules of a text, or its first bad place
unfoldable pub read : List ℕ → Result (List Module) (Refusal TagCause)
read text = do
  found ← with_lines (form_of text) nothing_found (text_lines text)
  ended (last_number 0 (text_lines text)) found.modules found.current
