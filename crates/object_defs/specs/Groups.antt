-- The first step of reading: the groups of a line, by the grammar.
--
-- Editor/Assembler manual, "Tagged object code": a line is groups one after the other, each a tag and its fields.
use Rattle.std.specs.Prelude.{ℕ, zero, suc, ◌+◌, ◌==◌, Bool, true, false, not, ◌&&◌, if◌then◌else◌, List, [], ◌∷◌}
use Rattle.std.specs.Prelude.{◌++◌, nat_le, length, slice_index, take, drop, Option, Some, None, Result, Ok, Err}
use Rattle.source_defs.specs.Refusals.{◌>>=◌}
use Rattle.object_defs.specs.declared.form.TextForm.{TextForm}
use Rattle.object_defs.specs.declared.spot.Spot.{Spot}
use Rattle.object_defs.specs.declared.causes.TagCause.{TagCause}
use Rattle.object_defs.specs.declared.causes.TagCause.TheVariants.{BadTag, Checksum}
use Rattle.object_defs.specs.declared.tag.Tag.{Tag}
use Rattle.object_defs.specs.declared.tag.Tag.TheVariants as tags
use Rattle.object_defs.specs.Modules.{Definition, Reference}
use Rattle.object_defs.specs.Digits.{checksum}
use Rattle.object_defs.specs.Tags.{tag_character, tag_of, kind_of, spot}
use Rattle.object_defs.specs.Fields.{number_at, number_size, module_name_at, symbol_at, all_blank}

-- a group: what its tag and its fields say
pub data Group : Type 0 where
  Header : (size : ℕ) (name : List ℕ) → Group
  Entry : Spot → Group
  Referred : Reference → Group
  Defined : Definition → Group
  Sum : Group
  IgnoredSum : Group
  Address : Spot → Group
  Word : Spot → Group
  EndOfLine : Group
  EndOfModule : Group

-- What a line has in the place of a group: the character there, and the group that it begins; or else its tag, if it
-- is one, and why no group is there.
pub data FoundGroup : Type 0 where
  Whole : (character : ℕ) → Group → FoundGroup
  Broken : (character : ℕ) → Option Tag → TagCause → FoundGroup

-- the tag that a group begins with
abbrev pub tag_of_group : Group → Tag
tag_of_group (Header size name) = tags.Header
tag_of_group (Entry at) = tags.Entry (kind_of at)
tag_of_group (Referred reference) = tags.Reference (kind_of reference.last)
tag_of_group (Defined definition) = tags.Definition (kind_of definition.value)
tag_of_group Sum = tags.Sum
tag_of_group IgnoredSum = tags.IgnoredSum
tag_of_group (Address at) = tags.Address (kind_of at)
tag_of_group (Word word) = tags.Word (kind_of word)
tag_of_group EndOfLine = tags.EndOfLine
tag_of_group EndOfModule = tags.EndOfModule

-- the tag in the place of a group, if the character there is one
abbrev pub tag_found : FoundGroup → Option Tag
tag_found (Whole character group) = Some (tag_of_group group)
tag_found (Broken character tag cause) = tag

-- the character in the place of a tag
abbrev pub character_found : FoundGroup → ℕ
character_found (Whole character group) = character
character_found (Broken character tag cause) = character

-- the group, where it is whole
abbrev pub group_found : FoundGroup → Result Group TagCause
group_found (Whole character group) = Ok group
group_found (Broken character tag cause) = Err cause

-- The tag that a character is at a place of its line, from 0. What ends a module comes first.
abbrev pub tag_at : TextForm → ℕ → ℕ → Option Tag
tag_at form place character =
    if (character == tag_character tags.EndOfModule) && not (place == 0) then None else tag_of form character

-- a checksum, against the one that is computed
abbrev pub compared : ℕ → ℕ → Result Group TagCause
compared computed number = if number == computed then Ok Sum else Err (Checksum number computed)

-- the group that a tag begins, by what comes after it, where its line has a checksum through the tag
abbrev pub group_of : TextForm → ℕ → ℕ → Tag → List ℕ → Result Group TagCause
group_of form computed character tags.Header after = do
  size ← number_at form after
  name ← module_name_at form character after
  Ok (Header size name)
group_of form computed character (tags.Entry kind) after =
    number_at form after >>= λ number. Ok (Entry (spot kind number))
group_of form computed character (tags.Reference kind) after = do
  number ← number_at form after
  name ← symbol_at form character after
  Ok (Referred (record { name = name; last = spot kind number }))
group_of form computed character (tags.Definition kind) after = do
  number ← number_at form after
  name ← symbol_at form character after
  Ok (Defined (record { name = name; value = spot kind number }))
group_of form computed character tags.Sum after = number_at form after >>= λ number. compared computed number
group_of form computed character tags.IgnoredSum after = number_at form after >>= λ number. Ok IgnoredSum
group_of form computed character (tags.Address kind) after =
    number_at form after >>= λ number. Ok (Address (spot kind number))
group_of form computed character (tags.Word kind) after =
    number_at form after >>= λ number. Ok (Word (spot kind number))
group_of form computed character tags.EndOfLine after = Ok EndOfLine
group_of form computed character tags.EndOfModule after = Ok EndOfModule

-- the group, or why there is none
abbrev pub found_as : ℕ → Tag → Result Group TagCause → FoundGroup
found_as character tag (Ok group) = Whole character group
found_as character tag (Err cause) = Broken character (Some tag) cause

-- what is in the place of a group, by its tag
unfoldable pub found_with : TextForm → ℕ → ℕ → Option Tag → List ℕ → FoundGroup
found_with form computed character None after = Broken character None (BadTag character)
found_with form computed character (Some tag) after =
    found_as character tag (group_of form computed character tag after)

-- What is in the place of a group. The checksum is that of the line's characters from the first through the group's
-- tag.
abbrev pub found_at : TextForm → List ℕ → ℕ → List ℕ → FoundGroup
found_at form before character after =
    found_with form (checksum (before ++ character ∷ [])) character (tag_at form (length before) character) after

-- how many characters a group has after its tag
abbrev pub group_size : TextForm → Group → ℕ
group_size form (Header size name) = number_size form + 8
group_size form (Entry at) = number_size form
group_size form (Referred reference) = number_size form + 6
group_size form (Defined definition) = number_size form + 6
group_size form Sum = number_size form
group_size form IgnoredSum = number_size form
group_size form (Address at) = number_size form
group_size form (Word word) = number_size form
group_size form EndOfLine = 0
group_size form EndOfModule = 0

-- What follows the end of a line or of a module is ignored.
abbrev pub is_last : Group → Bool
is_last EndOfLine = true
is_last EndOfModule = true
is_last _ = false

-- no group is looked for after a broken one
abbrev pub ends_line : FoundGroup → Bool
ends_line (Whole character group) = is_last group
ends_line (Broken character tag cause) = true

-- how many characters come after the tag
abbrev pub size_found : TextForm → FoundGroup → ℕ
size_found form (Whole character group) = group_size form group
size_found form (Broken character tag cause) = 0

-- At most a number of groups of a line, from a place on: what is there, and then the groups after it.
-- Profile: a line may end without the tag of its end.
unfoldable pub groups_from : ℕ → TextForm → List ℕ → ℕ → List FoundGroup
groups_from zero form line at = []
groups_from (suc most) form line at =
    if nat_le (length line) at then [] else (
    let found = found_at form (take at line) (slice_index line at) (drop (at + 1) line) in
    found ∷ (if ends_line found then [] else groups_from most form line (at + 1 + size_found form found)))

-- the groups of a line
-- Profile: a line of blanks is skipped.
abbrev pub groups_of : TextForm → List ℕ → List FoundGroup
groups_of form line = if all_blank line then [] else groups_from (length line) form line 0
