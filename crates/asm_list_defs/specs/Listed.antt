-- What is listed of a source with the files that it copies.
--
-- Profile: a listing has the lines that are read, in the order in which they are copied, and then the names. A source
-- that is refused is listed up to the refused line, and without names: where the first checks refuse that line, or it
-- cannot be copied, the lines before it are listed without what they place, since names are still to come.
use Rattle.std.specs.Prelude.{ℕ, ◌-◌, if◌then◌else◌, List, [], ◌∷◌, ◌++◌, length, take, map}
use Rattle.std.specs.Prelude.{Option, Some, None, Result, Ok, Err}
use Rattle.std.specs.List.{flat_map}
use Rattle.source_defs.specs.Refusals.{Refusal}
use Rattle.expression_defs.specs.Expression.{Value}
use Rattle.expression_defs.specs.Symbols.{Names, look_up}
use Rattle.source_defs.specs.Lines.{numbered}
use Rattle.expression_defs.specs.Layout.{line_layout, assembled_lines, set_or}
use Rattle.asm_defs.specs.declared.causes.AsmCause.{AsmCause}
use Rattle.asm_defs.specs.declared.location.Location.{Location}
use Rattle.asm_defs.specs.Locations.{Line, place}
use Rattle.asm_defs.specs.Statements.{Statement}
use Rattle.asm_defs.specs.FirstChecks.{check, names}
use Rattle.asm_defs.specs.SecondChecks.{Outcome, Nothing, outcome}
use Rattle.asm_defs.specs.Memory.{AssembledLine, is_placed_in}
use Rattle.asm_defs.specs.Modules.{assembled_line}
use Rattle.shelf_defs.specs.Files.{Contents}
use Rattle.shelf_defs.specs.Copied.{Place, PlacedLine, CopyRefusal, At, Asm, Copied, copied_by}
use Rattle.shelf_defs.specs.Assembly.{texts, places, place_of, layout_copied}

-- what is shown of a line: where it is placed, and what is placed there
pub record Shown : Type 0 where
  pub at : Location
  pub outcome : Outcome

-- a name, and what it stands for
pub record ListedName : Type 0 where
  pub place : Place
  pub name : List ℕ
  pub value : Option Value

pub record Listing : Type 0 where
  pub lines : List (PlacedLine × Shown)
  pub names : List ListedName
  pub refusal : Option CopyRefusal

-- Editor/Assembler manual, "Dummy Origin": nothing is placed there.
abbrev pub placed_at : Location → Outcome → Outcome
placed_at at found = if is_placed_in at.part then found else Nothing

-- what stands for itself if the second checks accept it
abbrev pub found_or : Location → Result Outcome AsmCause → Outcome
found_or at (Ok found) = placed_at at found
found_or at (Err cause) = Nothing

-- What a line at a place places, by all names; nothing of a source of which a line is refused before.
-- Profile: AORG, RORG and DORG are listed at the place that they set.
abbrev pub shown_at : Option Names → Location → Option Location → Statement → Shown
shown_at None at origin statement = record { at = set_or origin at; outcome = Nothing }
shown_at (Some known) at origin statement =
    record { at = set_or origin at; outcome = found_or at (outcome (look_up known) at statement) }

-- the lines in their order
abbrev pub shown : Option Names → List Line → List Shown
shown known [] = []
shown known (line ∷ before) = shown known before ++ shown_at known (place before line) line.origin line.statement ∷ []

-- items side by side, as many as the shorter list has
abbrev pub paired : {A B : Type 0} → List A → List B → List (A × B)
paired [] others = []
paired (item ∷ items) [] = []
paired (item ∷ items) (other ∷ others) = (item, other) ∷ paired items others

-- the names that each line defines, in the order of the lines
abbrev pub defined : List Line → List (List (List ℕ))
defined [] = []
defined (line ∷ before) = defined before ++ map (λ entry. entry.0) line.names ∷ []

-- the names of a line, with what they stand for in the end
abbrev pub names_of_line : Names → PlacedLine × List (List ℕ) → List ListedName
names_of_line known line =
    map (λ name. record { place = line.0.place; name = name; value = look_up known name }) line.1

abbrev pub listed_names : List PlacedLine → List Line → List ListedName
listed_names all lines = flat_map (names_of_line (names lines)) (paired all (defined lines))

-- how many lines the checks accept
abbrev pub accepted_count : {A C : Type 0} → Result (List A) (Refusal C) → ℕ
accepted_count (Ok lines) = length lines
accepted_count (Err refusal) = refusal.line - 1

abbrev pub first_answer : List PlacedLine → Result (List Line) (Refusal AsmCause)
first_answer all = line_layout check (numbered 1 (texts all))

-- the copied lines that the first checks accept
abbrev pub accepted_lines : List PlacedLine → List PlacedLine
accepted_lines all = take (accepted_count (first_answer all)) all

abbrev pub lines_in : {A C : Type 0} → Result (List A) C → List A
lines_in (Ok lines) = lines
lines_in (Err cause) = []

-- a source that is refused before the second checks
abbrev pub listing_before : List PlacedLine → CopyRefusal → Listing
listing_before all refusal =
    record { lines = paired all (shown None (lines_in (first_answer all))); names = []; refusal = Some refusal }

-- a source by its second checks
abbrev pub listing_after : List PlacedLine → List Line → Result (List AssembledLine) (Refusal AsmCause) → Listing
listing_after all lines (Ok found) =
    record { lines = paired all (shown (Some (names lines)) lines); names = listed_names all lines; refusal = None }
listing_after all lines (Err refusal) =
    record {
      lines = take (refusal.line - 1) (paired all (shown (Some (names lines)) lines));
      names = [];
      refusal = Some (At (place_of (places all) refusal.line) (Asm refusal.cause));
    }

abbrev pub listing_by : List PlacedLine → Result (List Line) CopyRefusal → Listing
listing_by all (Ok lines) = listing_after all lines (assembled_lines (assembled_line (names lines)) lines)
listing_by all (Err refusal) = listing_before (accepted_lines all) refusal

-- the listing of copied lines
abbrev pub listing_of : Copied → Listing
listing_of found = listing_by found.lines (layout_copied found)

-- the listing of a source with the files that it copies
abbrev pub listing : Contents → List ℕ → Listing
listing contents source = listing_of (copied_by contents source)
