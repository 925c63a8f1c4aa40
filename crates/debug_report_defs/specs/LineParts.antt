-- The two parts of a line of `gsteps` and of `steps`: its front, and its changes. They are found from the line alone:
-- no front has an equals sign or a line feed, and each word of the changes has an equals sign.
use Rattle.std.specs.Prelude.{ℕ, Bool, true, false, ◌==◌, ◌&&◌, ◌||◌, if◌then◌else◌, List, [], ◌∷◌}

-- there is an equals sign before the next blank
abbrev pub has_equals : List ℕ → Bool
has_equals [] = false
has_equals (byte ∷ bytes) = if byte == 0x3D then true else if byte == 0x20 then false else has_equals bytes

-- Profile: the changes of a line begin with the blank before its first word that has an equals sign. If no word has
-- one, what follows the front is the line feed.
abbrev pub ends_front : ℕ → List ℕ → Bool
ends_front byte bytes = (byte == 0x0A) || ((byte == 0x20) && has_equals bytes)

-- what a line has before its changes
abbrev pub front_part : List ℕ → List ℕ
front_part [] = []
front_part (byte ∷ bytes) = if ends_front byte bytes then [] else byte ∷ front_part bytes

-- the changes of a line, and its line feed
abbrev pub changes_part : List ℕ → List ℕ
changes_part [] = []
changes_part (byte ∷ bytes) = if ends_front byte bytes then byte ∷ bytes else changes_part bytes
