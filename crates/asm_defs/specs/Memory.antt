-- What the lines place: bytes, and words of which some hold the chains of the uses of external names.
use Rattle.std.specs.Prelude.{ℕ, ◌+◌, ◌-◌, ◌*◌, Bool, true, false, ◌&&◌, ◌||◌, nat_le, nat_lt, if◌then◌else◌, List}
use Rattle.std.specs.Prelude.{[], ◌∷◌, ◌++◌, length, slice_get, map, Option, Some, None, zero, suc}
use Rattle.std.specs.List.{flat_map}
use Rattle.expression_defs.specs.Expression.{Value, Absolute, Relocatable, External}
use Rattle.object_defs.specs.declared.spot.Spot.{Spot}
use Rattle.object_defs.specs.declared.spot.Spot.TheVariants as spot
use Rattle.object_defs.specs.declared.spot.Piece.{Piece}
use Rattle.object_defs.specs.Modules.{Reference}
use Rattle.asm_defs.specs.declared.content.Content.{Content}
use Rattle.asm_defs.specs.declared.content.Content.TheVariants as content
use Rattle.asm_defs.specs.declared.location.Location.{Location}
use Rattle.asm_defs.specs.declared.location.Part.{Part}
use Rattle.asm_defs.specs.declared.location.Part.TheVariants as part
use Rattle.asm_defs.specs.SecondChecks.{Outcome, Words, Bytes}
use Rattle.base_defs.specs.Counts.{one_if}
use Rattle.source_defs.specs.Names.{same_text}

-- a line by its place and its outcome
pub record AssembledLine : Type 0 where
  pub at : Location
  pub outcome : Outcome

-- the spot of a number in a part
abbrev pub spot_by : Part → ℕ → Spot
spot_by part.Relocatable number = spot.Relocatable number
spot_by _ number = spot.Absolute number

-- Editor/Assembler manual, "Dummy Origin": nothing is placed there.
abbrev pub is_placed_in : Part → Bool
is_placed_in part.Dummy = false
is_placed_in _ = true

abbrev pub same_part : Part → Part → Bool
same_part part.Relocatable part.Relocatable = true
same_part part.Absolute part.Absolute = true
same_part _ _ = false

-- how many bytes a line places
abbrev pub bytes_in : Outcome → ℕ
bytes_in (Words words) = 2 * length words
bytes_in (Bytes bytes) = length bytes
bytes_in _ = 0

-- a line places a byte at a place
abbrev pub covers : AssembledLine → Part → ℕ → Bool
covers line part p =
    same_part line.at.part part && nat_le line.at.number p && nat_lt p (line.at.number + bytes_in line.outcome)

-- a byte was placed at a place
abbrev pub is_placed : List AssembledLine → Part → ℕ → Bool
is_placed [] part p = false
is_placed (line ∷ before) part p = covers line part p || is_placed before part p

-- a byte of a word was placed, by the word's number
abbrev pub has_word : List AssembledLine → Part → ℕ → Bool
has_word lines part w = is_placed lines part (2 * w) || is_placed lines part (2 * w + 1)

-- how many words a part has
unfoldable pub part_words : ℕ
part_words = 32768

-- how many of some numbers have a property, and whether one has; they count from the first on
abbrev pub count_from : (ℕ → Bool) → ℕ → ℕ → ℕ
count_from has first zero = 0
count_from has first (suc count) = one_if (has first) + count_from has (first + 1) count

abbrev pub any_from : (ℕ → Bool) → ℕ → ℕ → Bool
any_from has first zero = false
any_from has first (suc count) = has first || any_from has (first + 1) count

-- how many words of a part are placed
abbrev pub words_in : List AssembledLine → Part → ℕ
words_in lines part = count_from (has_word lines part) 0 part_words

-- how many words are placed
abbrev pub word_count : List AssembledLine → ℕ
word_count lines = words_in lines part.Relocatable + words_in lines part.Absolute

-- a byte that a line places was placed before
abbrev pub overlaps : List AssembledLine → AssembledLine → Bool
overlaps before line = any_from (is_placed before line.at.part) line.at.number (bytes_in line.outcome)

-- the place of the last use of a name so far; absolute 0 before the first
abbrev pub last_use : List Reference → List ℕ → Spot
last_use [] name = spot.Absolute 0
last_use (reference ∷ references) name =
    if same_text reference.name name then reference.last else last_use references name

-- the last uses after one more
abbrev pub with_use : List Reference → List ℕ → Spot → List Reference
with_use [] name at = []
with_use (reference ∷ references) name at =
    if same_text reference.name name
    then record { name = reference.name; last = at } ∷ references
    else reference ∷ with_use references name at

-- Editor/Assembler manual, "External Reference": a use of an external name holds the place of the use before it.
-- Profile: absolute 0 at the first use.
abbrev pub word_of : List Reference → Value → Spot
word_of references (Absolute number) = spot.Absolute number
word_of references (Relocatable number) = spot.Relocatable number
word_of references (External name) = last_use references name

-- the last uses after a word at a place
abbrev pub after_word : List Reference → Spot → Value → List Reference
after_word references at (External name) = with_use references name at
after_word references at _ = references

-- what words hold, of which the first is at a place, and the last uses after them
abbrev pub words_at : Part → List Reference → ℕ → List Value → List Spot × List Reference
words_at part uses at [] = ([], uses)
words_at part uses at (word ∷ words) =
    let others = words_at part (after_word uses (spot_by part at) word) (at + 2) words in
    (word_of uses word ∷ others.0, others.1)

abbrev pub contents_by : Location → List Reference → Outcome → List Content
contents_by at references (Words words) =
    flat_map (λ word. content.First word ∷ content.Second ∷ []) (words_at at.part references at.number words).0
contents_by at references (Bytes bytes) = map content.Byte bytes
contents_by at references _ = []

abbrev pub after_by : Location → List Reference → Outcome → List Reference
after_by at references (Words words) =
    if is_placed_in at.part then (words_at at.part references at.number words).1 else references
after_by at references _ = references

-- The last uses after lines. Profile: a word under DORG is no use.
abbrev pub references_of : List Reference → List AssembledLine → List Reference
references_of references [] = references
references_of references (line ∷ before) = after_by line.at (references_of references before) line.outcome

-- what a line places, by the names that others define
abbrev pub contents : List Reference → List AssembledLine → AssembledLine → List Content
contents references before line = contents_by line.at (references_of references before) line.outcome

-- what is at a place
abbrev pub content_at : List Reference → List AssembledLine → Part → ℕ → Option Content
content_at references [] part p = None
content_at references (line ∷ before) part p =
    if covers line part p
    then slice_get (contents references before line) (p - line.at.number)
    else content_at references before part p

-- a byte of a word; 0 where none is placed
abbrev pub byte_in : Option Content → ℕ
byte_in (Some (content.Byte byte)) = byte
byte_in _ = 0

-- Profile: a word of which one byte is placed has 0 in the other.
abbrev pub joined : Option Content → Option Content → List Spot
joined None None = []
joined (Some (content.First word)) low = word ∷ []
joined high low = spot.Absolute (256 * byte_in high + byte_in low) ∷ []

-- the word with a number, where it is placed
abbrev pub pieces_at : (ℕ → Option Content) → Part → ℕ → List Piece
pieces_at content part w =
    map (λ word. record { at = spot_by part (2 * w); word = word }) (joined (content (2 * w)) (content (2 * w + 1)))

-- the placed words among some, by their numbers from the first on
abbrev pub pieces_from : (ℕ → Option Content) → Part → ℕ → ℕ → List Piece
pieces_from content part first zero = []
pieces_from content part first (suc count) = pieces_at content part first ++ pieces_from content part (first + 1) count

-- the words of a part, in order of their places
abbrev pub pieces_in : (ℕ → Option Content) → Part → List Piece
pieces_in content part = pieces_from content part 0 part_words

-- Profile: a module's words are its relocatable ones in order of their places, then its absolute ones.
abbrev pub pieces : List Reference → List AssembledLine → List Piece
pieces references lines =
    pieces_in (content_at references lines part.Relocatable) part.Relocatable
    ++ pieces_in (content_at references lines part.Absolute) part.Absolute
