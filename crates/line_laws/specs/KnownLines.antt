-- The outcomes of the lines of a source by themselves, where their places and the values of all names are known.
use Rattle.std.specs.Prelude.{ℕ, ◌+◌, ◌*◌, ◌==◌, Bool, true, false, not, ◌&&◌, ◌||◌, List, [], ◌∷◌, length, is_some}
use Rattle.std.specs.Prelude.{Option, Some, None, Result, Ok}
use Rattle.std.specs.Option.{option_map, unwrap_or}
use Rattle.std.specs.List.{flat_map, list_all}
use Rattle.std.specs.Ordering.{nat_cmp}
use Rattle.std.specs.Cmp.Lexicographic.{slice_cmp}
use Rattle.std.specs.FinMap.{empty, find}
use Rattle.source_defs.specs.Refusals.{◌>>=◌}
use Rattle.source_defs.specs.Fields.{fields}
use Rattle.source_defs.specs.OperandLists.{is_empty}
use Rattle.expression_defs.specs.Expression.{Value, Absolute, Relocatable, External}
use Rattle.object_defs.specs.declared.spot.Spot.TheVariants as spot
use Rattle.object_defs.specs.declared.spot.Piece.{Piece}
use Rattle.asm_defs.specs.declared.causes.AsmCause.{AsmCause}
use Rattle.asm_defs.specs.declared.location.Location.{Location}
use Rattle.asm_defs.specs.declared.location.Part.{Part}
use Rattle.asm_defs.specs.declared.location.Part.TheVariants as part
use Rattle.asm_defs.specs.Locations.{after}
use Rattle.asm_defs.specs.Statements.{Statement, Nothing, Instruction, Aorg, Equ, Data, as_text, statement_in}
use Rattle.asm_defs.specs.FirstChecks.{EarlierLines, Checked, moved, label_entry, location_after}
use Rattle.asm_defs.specs.SecondChecks as outcome
use Rattle.asm_defs.specs.SecondChecks.{Outcome, outcome}

-- a line by its place, what its first checks leave, and its outcome
pub record KnownLine : Type 0 where
  pub at : Location
  pub found : Checked
  pub outcome : Outcome

-- of the lines before, the location alone
abbrev pub nothing_before : Location → EarlierLines
nothing_before location = record { names = empty; location = location; reached = 0; defs = []; refs = [] }

-- A line by itself at a location, by what each name stands for: its fields, what it says, where it leads, and its
-- outcome.
abbrev pub known_line : (List ℕ → Option Value) → Location → List ℕ → Result KnownLine AsmCause
known_line look location text = do
  fields ← as_text (fields text)
  statement ← statement_in text fields
  found ← moved (nothing_before location) (record { label = fields.label; statement = statement })
  come ← outcome look (after location found.move.gap) found.statement
  Ok (record { at = after location found.move.gap; found = found; outcome = come })

-- lines by themselves, one after the other
abbrev pub known_lines : (List ℕ → Option Value) → Location → List (List ℕ) → Result (List KnownLine) AsmCause
known_lines look location [] = Ok []
known_lines look location (text ∷ texts) = do
  line ← known_line look location text
  others ← known_lines look (location_after location line.found.move) texts
  Ok (line ∷ others)

-- the location after lines
abbrev pub end_of : Location → List KnownLine → Location
end_of location [] = location
end_of location (line ∷ lines) = end_of (location_after location line.found.move) lines

-- the names that a line defines, and the names of all lines
abbrev pub names_in : KnownLine → List (List ℕ × Value)
names_in line = label_entry line.found.label line.found.move.label

abbrev pub all_names : List KnownLine → List (List ℕ × Value)
all_names lines = flat_map names_in lines

-- names with more after them, the last first; what a name stands for
abbrev pub names_after : List (List ℕ × Value) → List (List ℕ × Value) → List (List ℕ × Value)
names_after known [] = known
names_after known (entry ∷ entries) = names_after (entry ∷ known) entries

abbrev pub look_in : List (List ℕ × Value) → List ℕ → Option Value
look_in known name = find (slice_cmp nat_cmp) name known

-- no name stands for something already
abbrev pub are_new : List (List ℕ × Value) → List (List ℕ × Value) → Bool
are_new known [] = true
are_new known (entry ∷ entries) = not (is_some (look_in known entry.0)) && are_new (entry ∷ known) entries

-- the numbers of values that are all absolute
abbrev pub numbers_of : List Value → Option (List ℕ)
numbers_of [] = Some []
numbers_of (Absolute number ∷ values) = option_map (λ numbers. number ∷ numbers) (numbers_of values)
numbers_of (Relocatable number ∷ values) = None
numbers_of (External name ∷ values) = None

-- the words of an outcome that is words, or nothing
abbrev pub outcome_words : Outcome → Option (List ℕ)
outcome_words outcome.Nothing = Some []
outcome_words (outcome.Words values) = numbers_of values
outcome_words (outcome.Bytes bytes) = None
outcome_words (outcome.Entry entry) = None

abbrev pub line_words : KnownLine → List ℕ
line_words line = unwrap_or (outcome_words line.outcome) []

abbrev pub all_words : List KnownLine → List ℕ
all_words lines = flat_map line_words lines

-- the statements whose meaning takes nothing of the lines before but the location and the values of names
abbrev pub is_plain_statement : Statement → Bool
is_plain_statement Nothing = true
is_plain_statement (Instruction size operation field) = true
is_plain_statement (Aorg text) = true
is_plain_statement (Equ text) = true
is_plain_statement (Data texts) = true
is_plain_statement _ = false

-- such a line that places absolute words, or nothing
abbrev pub is_plain : KnownLine → Bool
is_plain line = is_plain_statement line.found.statement && is_some (outcome_words line.outcome)

abbrev pub are_plain : List KnownLine → Bool
are_plain lines = list_all is_plain lines

-- an absolute place
abbrev pub is_absolute : Part → Bool
is_absolute part.Absolute = true
is_absolute part.Relocatable = false
is_absolute part.Dummy = false

abbrev pub is_at : ℕ → Location → Bool
is_at number place = is_absolute place.part && place.number == number

-- the words of lines come one after the other from an absolute place on
abbrev pub are_close : ℕ → List KnownLine → Bool
are_close number [] = true
are_close number (line ∷ lines) =
    (is_empty (line_words line) || is_at number line.at) && are_close (number + 2 * length (line_words line)) lines

-- the pieces of words that come one after the other from an absolute place on
abbrev pub pieces_of : ℕ → List ℕ → List Piece
pieces_of from [] = []
pieces_of from (word ∷ words) =
    record { at = spot.Absolute from; word = spot.Absolute word } ∷ pieces_of (from + 2) words
