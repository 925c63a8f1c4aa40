-- What holds of a source whose lines are known by themselves.
use Rattle.std.specs.Prelude.{◌≡◌, ℕ, ◌+◌, ◌*◌, ◌≤◌, ◌<◌, List, [], ◌∷◌, ◌++◌}
use Rattle.std.specs.Prelude.{length, slice_index_or, take, IsTrue}
use Rattle.std.specs.Prelude.{Option, Some, None, Ok}
use Rattle.expression_defs.specs.Expression.{Value}
use Rattle.expression_defs.specs.Symbols.{registers, look_up}
use Rattle.source_defs.specs.Lines.{numbered}
use Rattle.expression_defs.specs.Layout.{line_layout}
use Rattle.object_defs.specs.declared.spot.Spot.{Spot}
use Rattle.object_defs.specs.Modules.{Module}
use Rattle.asm_defs.specs.declared.location.Location.{Location}
use Rattle.asm_defs.specs.Locations.{Line, start, place}
use Rattle.asm_defs.specs.Statements.{End}
use Rattle.asm_defs.specs.FirstChecks.{check, names}
use Rattle.asm_defs.specs.SecondChecks as outcome
use Rattle.asm_defs.specs.SecondChecks.{Outcome, outcome}
use Rattle.asm_defs.specs.Modules.{module_of_lines}
use Rattle.line_laws.specs.KnownLines.{KnownLine, known_line, known_lines, end_of, all_names, names_after, look_in}
use Rattle.line_laws.specs.KnownLines.{are_new, are_plain, are_close, all_words, pieces_of}

-- what all names of a source stand for, by the names that its lines define
abbrev pub looks : List (List ℕ × Value) → List ℕ → Option Value
looks defined name = look_in (names_after registers defined) name

-- Lines that are plain, by the names that they define: these are new, and the words come one after the other from an
-- absolute place on. After them stands a last line, which is END with an entry.
pub record AreKnown (from : ℕ) (texts : List (List ℕ)) (last : List ℕ) (defined : List (List ℕ × Value))
    (lines : List KnownLine) (end : KnownLine) (entry : Spot) : Type 0 where
  pub known : known_lines (looks defined) start texts ≡ Ok lines
  pub names : all_names lines ≡ defined
  pub plain : IsTrue (are_plain lines)
  pub new : IsTrue (are_new registers defined)
  pub close : IsTrue (are_close from lines)
  pub closing : known_line (looks defined) (end_of start lines) last ≡ Ok end
  pub unnamed : end.found.label ≡ None
  pub ends : (text : Option (List ℕ)) × (end.found.statement ≡ End text)
  pub enters : end.outcome ≡ outcome.Entry entry

-- a module whose words come one after the other, with an entry and without names
pub record HasWords (from : ℕ) (words : List ℕ) (entry : Spot) (m : Module) : Type 0 where
  pub pieces : m.pieces ≡ pieces_of from words
  pub defs : m.defs ≡ []
  pub refs : m.refs ≡ []
  pub entered : m.entry ≡ Some entry

-- lines have such a module
pub record HaveWords (texts : List (List ℕ)) (from : ℕ) (words : List ℕ) (entry : Spot) : Type 0 where
  pub unit : Module
  pub assembled : module_of_lines texts ≡ Ok unit
  pub has : HasWords from words entry unit

-- The law, which is proved: the module of such lines has their words from there on, and nothing else.
abbrev pub KnownLinesHaveTheirWords : Type 0
KnownLinesHaveTheirWords =
    (half : ℕ) (texts : List (List ℕ)) (last : List ℕ) (defined : List (List ℕ × Value)) (lines : List KnownLine)
    (end : KnownLine) (entry : Spot)
    → AreKnown (2 * half) texts last defined lines end entry → half + length (all_words lines) ≤ 32768
    → HaveWords (texts ++ last ∷ []) (2 * half) (all_words lines) entry

-- A line of a source is at a place, after the lines before it, and has an outcome, by the names of all lines.
pub record IsAssembledAt (texts : List (List ℕ)) (index : ℕ) (at : Location) (come : Outcome) : Type 0 where
  pub before : List Line
  pub earlier_layout : line_layout check (numbered 1 (take index texts)) ≡ Ok before
  pub line : Line
  pub checked : check before (index + 1) (slice_index_or texts index []) ≡ Ok line
  pub place_is : place before line ≡ at
  pub all : List Line
  pub whole_layout : line_layout check (numbered 1 texts) ≡ Ok all
  pub comes : outcome (look_up (names all)) at line.statement ≡ Ok come

-- The law, which is proved: each of such lines has its known place and its known outcome.
abbrev pub KnownLinesAreAssembled : Type 0
KnownLinesAreAssembled =
    (half : ℕ) (texts : List (List ℕ)) (last : List ℕ) (defined : List (List ℕ × Value)) (lines : List KnownLine)
    (end : KnownLine) (entry : Spot) (index : ℕ) (d : KnownLine)
    → AreKnown (2 * half) texts last defined lines end entry → index < length (lines ++ end ∷ [])
    → let line = slice_index_or (lines ++ end ∷ []) index d in
    IsAssembledAt (texts ++ last ∷ []) index line.at line.outcome
