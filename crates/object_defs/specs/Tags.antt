-- The tags of object text.
--
-- Editor/Assembler manual, "Tagged object code". Profile: the tags D, E, G, H and I of that table are none here.
use Rattle.std.specs.Prelude.{ℕ, ◌==◌, if◌then◌else◌, List, [], ◌∷◌, find, Option, Some}
use Rattle.object_defs.specs.declared.form.TextForm.{TextForm}
use Rattle.object_defs.specs.declared.form.TextForm.TheVariants.{Plain, Compressed}
use Rattle.object_defs.specs.declared.spot.Spot.{Spot}
use Rattle.object_defs.specs.declared.spot.Spot.TheVariants as spots
use Rattle.object_defs.specs.declared.tag.Kind.{Kind}
use Rattle.object_defs.specs.declared.tag.Kind.TheVariants.{Absolute, Relocatable}
use Rattle.object_defs.specs.declared.tag.Tag.{Tag}
use Rattle.object_defs.specs.declared.tag.Tag.TheVariants.{Header, Entry, Reference, Definition, Sum, IgnoredSum}
use Rattle.object_defs.specs.declared.tag.Tag.TheVariants.{Address, Word, EndOfLine, EndOfModule}

-- the character of a tag in plain text
abbrev pub tag_character : Tag → ℕ
tag_character Header = 0x30  -- 0
tag_character (Entry Absolute) = 0x31  -- 1
tag_character (Entry Relocatable) = 0x32  -- 2
tag_character (Reference Relocatable) = 0x33  -- 3
tag_character (Reference Absolute) = 0x34  -- 4
tag_character (Definition Relocatable) = 0x35  -- 5
tag_character (Definition Absolute) = 0x36  -- 6
tag_character Sum = 0x37  -- 7
tag_character IgnoredSum = 0x38  -- 8
tag_character (Address Absolute) = 0x39  -- 9
tag_character (Address Relocatable) = 0x41  -- A
tag_character (Word Absolute) = 0x42  -- B
tag_character (Word Relocatable) = 0x43  -- C
tag_character EndOfLine = 0x46  -- F
tag_character EndOfModule = 0x3A  -- :

-- The tag that a module begins with. Profile: it is >01 in compressed text, and each form has its own alone.
abbrev pub opening_tag : TextForm → ℕ
opening_tag Plain = tag_character Header
opening_tag Compressed = 0x01

-- the tags but the one that a module begins with
abbrev pub further_tags : List Tag
further_tags =
    Entry Absolute ∷ Entry Relocatable ∷ Reference Relocatable ∷ Reference Absolute ∷ Definition Relocatable
    ∷ Definition Absolute ∷ Sum ∷ IgnoredSum ∷ Address Absolute ∷ Address Relocatable ∷ Word Absolute
    ∷ Word Relocatable ∷ EndOfLine ∷ EndOfModule ∷ []

-- the tag of a character
unfoldable pub tag_of : TextForm → ℕ → Option Tag
tag_of form byte =
    if byte == opening_tag form then Some Header else find (λ tag. byte == tag_character tag) further_tags

-- the kind of a spot
abbrev pub kind_of : Spot → Kind
kind_of (spots.Absolute number) = Absolute
kind_of (spots.Relocatable number) = Relocatable

-- the spot of a kind with a number
abbrev pub spot : Kind → ℕ → Spot
spot Absolute number = spots.Absolute number
spot Relocatable number = spots.Relocatable number
