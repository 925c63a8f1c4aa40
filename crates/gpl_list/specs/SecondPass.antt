-- The outcomes of lines by all names.
use Rattle.std.specs.Prelude.{◌≡◌, ⊤, ℕ, ◌+◌, ◌≤◌, List, ◌∷◌, map, Result, Ok, Err}
use Rattle.expression_defs.specs.Symbols.{Names}
use Rattle.expression_defs.specs.Layout.{assembled_lines}
use Rattle.gpl_defs.specs.Image.{Image}
use Rattle.gpl_source_defs.specs.declared.location.Location.{Location}
use Rattle.gpl_source_defs.specs.Statements.{Statement, declared_size}
use Rattle.gpl_source_defs.specs.Locations.{Line}
use Rattle.gpl_source_defs.specs.FirstChecks.{parsed}
use Rattle.gpl_source_defs.specs.Programs.{AssembledLine, assembled_line, assembled_at, image}
use Rattle.gpl_lines.specs.Answers.{Fails}
use Rattle.gpl_lines.specs.declared.failure.Failure.{Failure}
use Rattle.gpl_asm.specs.declared.error.GplError.{GplError}
use Rattle.gpl_asm.specs.declared.error.GplError.TheVariants.{At, Memory}
use Rattle.gpl_list_defs.specs.Rows as spec
use Rattle.gpl_list.specs.declared.rows.Row.{Row}
use Rattle.gpl_list.specs.Reading.{model_of_row}

-- a line says something by all names, and ends before the addresses do
abbrev pub Fits : Names → Location → List ℕ → Type 0
Fits known at text =
    (statement : Statement) × (parsed known at text ≡ Ok statement) × (at.number + declared_size statement ≤ 65536)

-- a line was assembled after others, and its bytes were placed
abbrev pub AssembledAs
    : {A : Type 0} → (A → List ℕ) → Names → Location → Statement → List AssembledLine → Result A Failure → Image
    → Type 0
AssembledAs bytes known at statement earlier (Ok value) left =
    (found : AssembledLine) × (assembled_at known at statement earlier ≡ Ok found) × (left ≡ image (found ∷ earlier))
    × (bytes value ≡ spec.placed_bytes known at statement)
AssembledAs bytes known at statement earlier (Err failure) left =
    Fails failure (assembled_at known at statement earlier)

abbrev pub AssemblesRow
    : {A : Type 0} → (A → List ℕ) → Names → Location → List ℕ → Image → Result A Failure → Image → Type 0
AssemblesRow bytes known at text old result left =
    (statement : Statement) (earlier : List AssembledLine)
    → parsed known at text ≡ Ok statement → old ≡ image earlier
    → AssembledAs bytes known at statement earlier result left

-- the rows of lines with their bytes, or of those before the first that the second checks refuse
abbrev pub AssemblesRows : {A : Type 0} → List (ℕ × List ℕ) → Names → List Line → Result A GplError → List Row → Type 0
AssemblesRows texts known lines (Ok done) rows =
    (found : List AssembledLine) × (assembled_lines (assembled_line known) lines ≡ Ok found)
    × (map model_of_row rows ≡ spec.rows (spec.placed_bytes known) texts lines)
AssemblesRows texts known lines (Err (At number cause)) rows =
    (assembled_lines (assembled_line known) lines ≡ Err (record { line = number; cause = cause }))
    × (map model_of_row rows ≡ spec.rows (spec.placed_bytes known) texts (spec.lines_before number lines))
AssemblesRows texts known lines (Err Memory) rows = ⊤
