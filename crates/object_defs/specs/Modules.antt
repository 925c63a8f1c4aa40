-- What a module is: its code, its names and its entry.
use Rattle.std.specs.Prelude.{◌≡◌, ℕ, ◌+◌, ◌-◌, ◌%◌, ◌≤◌, ◌==◌, Bool, false, ◌&&◌, nat_le, List, length, Option}
use Rattle.std.specs.List.{list_all, AllByRecursion}
use Rattle.object_defs.specs.declared.spot.Spot.{Spot}
use Rattle.object_defs.specs.declared.spot.Spot.TheVariants.{Absolute, Relocatable}
use Rattle.object_defs.specs.declared.spot.Piece.{Piece}

-- the number of a spot, without its kind
abbrev pub number_of : Spot → ℕ
number_of (Absolute number) = number
number_of (Relocatable number) = number

-- Profile: a place past >FFFF is counted from 0 again.
abbrev pub moved : Spot → ℕ → Spot
moved (Absolute number) bytes = Absolute ((number + bytes) % 65536)
moved (Relocatable number) bytes = Relocatable ((number + bytes) % 65536)

-- the place without its lowest bit
abbrev pub even : Spot → Spot
even (Absolute number) = Absolute (number - number % 2)
even (Relocatable number) = Relocatable (number - number % 2)

abbrev pub same_spot : Spot → Spot → Bool
same_spot (Absolute a) (Absolute b) = a == b
same_spot (Relocatable a) (Relocatable b) = a == b
same_spot (Absolute a) (Relocatable b) = false
same_spot (Relocatable a) (Absolute b) = false

-- a DEF name and its value
pub record Definition : Type 0 where
  pub name : List ℕ
  pub value : Spot

-- A REF name and the place of its last use. Profile: absolute 0 where it is never used, as in the group `40000`.
pub record Reference : Type 0 where
  pub name : List ℕ
  pub last : Spot

pub record Module : Type 0 where
  pub name : List ℕ
  pub size : ℕ
  pub pieces : List Piece
  pub defs : List Definition
  pub refs : List Reference
  pub entry : Option Spot

-- Profile: a text has at most 64 modules.
abbrev pub most_modules : ℕ
most_modules = 64

-- Profile: a module has at most 32,768 words, which is as many as there are even places.
abbrev pub most_words : ℕ
most_words = 32768

-- Profile: a module has at most 256 DEFs, and at most 256 REFs.
abbrev pub most_names : ℕ
most_names = 256

-- a character of a module's name
abbrev pub is_name_character : ℕ → Bool
is_name_character byte = nat_le 0x20 byte && nat_le byte 0x7E

abbrev pub all_name_characters : List ℕ → Bool
all_name_characters bytes = list_all is_name_character bytes

-- Profile: a module's name is eight characters from >20 to >7E.
abbrev pub is_module_name : List ℕ → Bool
is_module_name bytes = (length bytes == 8) && all_name_characters bytes

abbrev pub IsAtEvenPlace : Piece → Type 0
IsAtEvenPlace piece = number_of piece.at % 2 ≡ 0

-- what a module must be to have a text: its words are at even places, and it passes no limit
pub record HasText (m : Module) : Type 0 where
  pub even_places : AllByRecursion IsAtEvenPlace m.pieces
  pub words : length m.pieces ≤ most_words
  pub defs : length m.defs ≤ most_names
  pub refs : length m.refs ≤ most_names
