-- A builder after one line more.
use Rattle.std.proofs.Common.{◌≡◌, ℕ, ◌+◌, List, [], ◌∷◌, ◌++◌, Some, None, refl, ap, arith}
use Rattle.std.specs.Prelude.{Option, map, is_some, if◌then◌else◌}
use Rattle.std.specs.FinMap.{insert}
use Rattle.expression_defs.specs.Expression.{Value}
use Rattle.expression_defs.specs.Symbols.{Names}
use Rattle.expression_defs.specs.Layout.{with_names, set_or, origin, since_origin, bytes_taken}
use Rattle.asm_defs.specs.declared.location.Location.{Location}
use Rattle.asm_defs.specs.Locations.{Line, start, after, location}
use Rattle.asm_defs.specs.FirstChecks.{Checked, names, known_of, line_of, location_after, label_entry, label_in, external_entries, refs_in}
use Rattle.asm_core.specs.declared.lines.AsmLines.{AsmLines}
use Rattle.asm_core.specs.Keeping.{known_in}
use Rattle.asm_core.specs.Building.{IsAfter}

-- the location after a line
location_by : (set : Option Location) (from : Location) (lines : List Line) (more : ℕ)
    → after (set_or set from) (bytes_taken (if is_some set then [] else since_origin lines) + more)
    ≡ after (set_or set (after from (bytes_taken (since_origin lines)))) more
location_by (Some origin) from lines more = ap (λ number. record { part = origin.part; number = origin.number + number }) (omega arith)
location_by None from lines more =
    let bytes = bytes_taken (since_origin lines) in
    let same : from.number + (bytes + more) ≡ from.number + bytes + more = omega arith in
    ap (λ number. record { part = from.part; number = number }) same

pub location_more : (number : ℕ) (found : Checked) (lines : List Line) → location (line_of number found ∷ lines) ≡ location_after (location lines) found.move
location_more number found lines =
    location_by found.move.origin (origin start after lines) lines (found.move.gap + found.move.size)

with_more : (first second : List (List ℕ × Value)) (known : Names) → with_names known (first ++ second) ≡ with_names (with_names known first) second
with_more [] second known = refl
with_more (entry ∷ first) second known = with_more first second (insert known entry.0 entry.1)

pub names_more : (number : ℕ) (found : Checked) (lines : List Line)
    → names (line_of number found ∷ lines)
    ≡ with_names (with_names (names lines) (label_entry found.label found.move.label)) (external_entries (refs_in found.statement))
names_more number found lines = with_more (label_entry found.label found.move.label) (external_entries (refs_in found.statement)) (names lines)

-- the names that a line defines
entries_names : (names : List (List ℕ)) → map (λ (entry : List ℕ × Value). entry.0) (external_entries names) ≡ names
entries_names [] = refl
entries_names (name ∷ names) = ap (λ others. name ∷ others) (entries_names names)

pub line_names : (label : Option (List ℕ)) (value : Value) (refs : List (List ℕ))
    → map (λ (entry : List ℕ × Value). entry.0) (label_entry label value ++ external_entries refs) ≡ label_in label ++ refs
line_names None value refs = entries_names refs
line_names (Some name) value refs = ap (λ others. name ∷ others) (entries_names refs)

-- what the builder knows
pub known_same : (lines : List Line) (builder : AsmLines) → IsAfter lines builder → known_in builder ≡ known_of lines
known_same lines builder is = rw (is.names, is.location, is.reached, is.defs, is.refs) refl
