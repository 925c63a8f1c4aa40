-- What the first checks accept: texts of bytes, names with values of 16 bits, and places in their parts.
use Rattle.std.proofs.Common.{◌≡◌, ℕ, zero, suc, ◌+◌, ◌≤◌, Bool, true, false, cond, List, [], ◌∷◌, ◌++◌, Some, None, Ok, Err, refl, sym, ap, subst, ◌∙◌}
use Rattle.std.proofs.Common.{arith, nat_cmp}
use Rattle.std.specs.Prelude.{Option, Result, IfOk, IfSome, ⊤, if◌then◌else◌, map, nat_le, max}
use Rattle.std.specs.List.{AllByRecursion, range_with_len}
use Rattle.std.specs.FinMap.{get, insert, find, get-insert, get-from_entries}
use Rattle.std.specs.Ordering.{eq_by_cmp}
use Rattle.std.specs.Cmp.Lexicographic.{slice_cmp}
use Rattle.std.proofs.lemmas.Cmp.{nat_list_cmp_total}
use Rattle.std.proofs.lemmas.Bool.Decides.{nat_tests}
use Rattle.source_defs.specs.Refusals.{◌>>=◌, unless, at_line}
use Rattle.source_defs.specs.Fields.{fields}
use Rattle.expression_defs.specs.declared.causes.ExprError.{ExprError}
use Rattle.expression_defs.specs.Expression.{Value, Absolute, Relocatable, External}
use Rattle.expression_defs.specs.Symbols.{Names, look_up, predefined, registers, register_name}
use Rattle.expression_defs.specs.Layout.{with_names, layout_after}
use Rattle.asm_defs.specs.declared.causes.AsmCause.{AsmCause}
use Rattle.asm_defs.specs.declared.causes.AsmCause.TheVariants.{DuplicateLabel, Overflow, BadDirective}
use Rattle.asm_defs.specs.declared.location.Location.{Location}
use Rattle.asm_defs.specs.declared.location.Part.{Part}
use Rattle.asm_defs.specs.declared.location.Part.TheVariants as part
use Rattle.asm_defs.specs.Statements.{Statement, Aorg, Rorg, Dorg, Bss, Bes, Equ, statement_in, as_text}
use Rattle.asm_defs.specs.Locations.{Line, location, place, after, value_of, is_in_part, limit, relocatable, relocatable_by, reached}
use Rattle.asm_defs.specs.FirstChecks.{ParsedLine, Checked, LocationChange, EarlierLines, names, any_known, label_in, is_taken, refs_in, is_too_far, is_bad}
use Rattle.asm_defs.specs.FirstChecks.{as_expr, move, value}
use Rattle.asm_defs.specs.FirstChecks.{non_external_number, non_external, absolute_in, parsed, moved, checked, known_of, line_of, check, label_entry}
use Rattle.asm_defs.specs.FirstChecks.{external_entries}
use Rattle.asm_defs.specs.Growing.{declared_size}
use Rattle.asm_defs.proofs.CheckLaws.{bound, IsTitled, checked_within, checked_titled, moved_room}
use Rattle.asm_core.proofs.LineLaws.{location_more}
use Rattle.source_modules.proofs.Answers.{ok_then, ok_has, any}
use Rattle.source_modules.proofs.Bytes.{AreBytes}
use Rattle.source_modules.proofs.Values.{FitsValue, FitsLook, expression_fits}
use Rattle.source_modules.proofs.Outcomes.{HasBytes, place_value, expr_fits}
use Rattle.source_modules.proofs.Statements.{IsFitStatement, line_fits}

unless_has : {A C : Type 0} (P : A → Type 0) (b : Bool) (cause : C) (value : A) → P value → IfOk (unless b cause value) P
unless_has P true cause value has = tt
unless_has P false cause value has = has

-- ---- what a label stands for

abbrev FitsLabel : LocationChange → Type 0
FitsLabel change = FitsValue change.label

module _ (known : Names) (here : Location) (reached : ℕ) (fits : FitsLook (look_up known)) where
  equal_fits : (found : Value) → FitsValue found → IfOk (non_external found) FitsValue
  equal_fits (Absolute number) fits = fits
  equal_fits (Relocatable number) fits = fits
  equal_fits (External name) fits = tt

  after_number : (answer : Result ℕ ExprError) (make : ℕ → LocationChange) → ((number : ℕ) → FitsLabel (make number))
      → IfOk (answer >>= λ number. Ok (make number)) FitsLabel
  after_number answer make each = ok_then (λ number. ⊤) FitsLabel answer (λ number. Ok (make number)) (any answer) (λ number some. each number)

  label_fits : (statement : Statement) → HasBytes statement → IfOk (move known here reached statement) FitsLabel
  label_fits (Aorg text) are = after_number (absolute_in known here text) _ (λ number. place_value (record { part = part.Absolute; number = number }))
  label_fits (Rorg None) are = place_value (record { part = part.Relocatable; number = reached })
  label_fits (Rorg (Some text)) are =
      ok_then (λ found. ⊤) FitsLabel (value known here text >>= non_external_number) _ (any (value known here text >>= non_external_number))
      (λ number some. place_value (record { part = part.Relocatable; number = number }))
  label_fits (Dorg text) are = after_number (absolute_in known here text) _ (λ number. place_value (record { part = part.Dummy; number = number }))
  label_fits (Bss text) are = after_number (absolute_in known here text) _ (λ number. place_value here)
  label_fits (Bes text) are = after_number (absolute_in known here text) _ (λ number. place_value (after here number))
  label_fits (Equ text) are =
      ok_then FitsValue FitsLabel (value known here text >>= non_external) _
      (ok_then FitsValue FitsValue (value known here text) non_external
      (expression_fits (look_up known) (value_of here) text fits (place_value here) are) equal_fits)
      (λ found fits. fits)
  label_fits _ are = place_value _

-- ---- a line by the first checks

record HasFitStatement (found : Checked) : Type 0 where
  fit_statement : IsFitStatement found.statement
  label : FitsValue found.move.label

abbrev IsFitLine : ParsedLine → Type 0
IsFitLine line = IsFitStatement line.statement

module _ (before : EarlierLines) (fits : FitsLook (look_up before.names)) where
  parsed_fits : (text : List ℕ) → AreBytes text → IfOk (parsed before text) IsFitLine
  unfolding parsed
  parsed_fits text are =
      ok_then (λ found. ⊤) IsFitLine (as_text (fields text)) _ (any (as_text (fields text)))
      (λ found some. ok_then (λ label. ⊤) IsFitLine (unless (any_known before.names (label_in found.label)) DuplicateLabel found.label) _
      (any (unless (any_known before.names (label_in found.label)) DuplicateLabel found.label))
      (λ label new. ok_then IsFitStatement IsFitLine (statement_in text found) _ (line_fits text found are)
      (λ statement fit_statement. unless_has IsFitLine (is_taken before.names label (refs_in statement)) DuplicateLabel
      (record { label = label; statement = statement }) fit_statement)))

  moved_fits : (line : ParsedLine) → IsFitLine line → IfOk (moved before line) HasFitStatement
  unfolding moved
  moved_fits line fit_statement =
      ok_then FitsLabel HasFitStatement (as_expr (move before.names before.location before.reached line.statement)) _
      (expr_fits FitsLabel (move before.names before.location before.reached line.statement)
      (label_fits before.names before.location before.reached fits line.statement fit_statement.bytes))
      (λ change label. ok_then FitsLabel HasFitStatement (unless (is_too_far before line.statement change) Overflow change) _
      (unless_has FitsLabel (is_too_far before line.statement change) Overflow change label)
      (λ change label. unless_has HasFitStatement (is_bad before line.label line.statement) BadDirective
      (record { label = line.label; statement = line.statement; move = change })
      (record { fit_statement = fit_statement; label = label })))

  checked_fits : (text : List ℕ) → AreBytes text → IfOk (checked before text) HasFitStatement
  checked_fits text are = ok_then IsFitLine HasFitStatement (parsed before text) (moved before) (parsed_fits text are) moved_fits

-- ---- names

abbrev FitsEntry : List ℕ × Value → Type 0
FitsEntry entry = FitsValue entry.1

either_fits : (b : Bool) (value : Value) (other : Option Value) → FitsValue value → IfSome other FitsValue → IfSome (cond b (Some value) other) FitsValue
either_fits true value other fits rest = fits
either_fits false value other fits rest = rest

names_fit : (entries : List (List ℕ × Value)) (known : Names) → FitsLook (look_up known) → AllByRecursion FitsEntry entries
    → FitsLook (look_up (with_names known entries))
names_fit [] known fits all = fits
names_fit (entry ∷ entries) known fits all =
    names_fit entries (insert known entry.0 entry.1)
    (λ name. subst (λ (found : Option Value). IfSome found FitsValue) (sym (get-insert nat_list_cmp_total known entry.0 entry.1 name))
    (either_fits (eq_by_cmp (slice_cmp nat_cmp) name entry.0) entry.1 (get known name) all.0 (fits name)))
    all.1

external_fit : (names : List (List ℕ)) → AllByRecursion FitsEntry (external_entries names)
external_fit [] = tt
external_fit (name ∷ names) = (tt, external_fit names)

defined_fit : (label : Option (List ℕ)) (value : Value) (names : List (List ℕ)) → FitsValue value
    → AllByRecursion FitsEntry (label_entry label value ++ external_entries names)
defined_fit None value names fits = external_fit names
defined_fit (Some label) value names fits = (fits, external_fit names)

-- ---- lines

pub record IsGood (before : List Line) (line : Line) : Type 0 where
  pub fit_statement : IsFitStatement line.statement
  pub titled : IsTitled line.statement
  pub room : (place before line).number + declared_size line.statement ≤ 65536
  pub within : is_in_part (location (line ∷ before)) ≡ true

abbrev pub AreGood : List Line → Type 0
AreGood [] = ⊤
AreGood (line ∷ before) = IsGood before line × AreGood before

pub record FitsLines (lines : List Line) : Type 0 where
  pub good : AreGood lines
  pub known : FitsLook (look_up (names lines))

is_placed_within : (lines : List Line) → AreGood lines → is_in_part (location lines) ≡ true
is_placed_within [] good = refl
is_placed_within (line ∷ before) good = good.0.within

line_good : (before : List Line) (number : ℕ) (text : List ℕ) (line : Line) → FitsLines before → AreBytes text → check before number text ≡ Ok line
    → FitsLines (line ∷ before)
line_good before number text line fits are e =
    let a = bound (checked (known_of before) text) _ line e in
    let b = bound (parsed (known_of before) text) _ a.0 a.1 in
    let has = ok_has HasFitStatement (checked (known_of before) text) a.0 a.1 (checked_fits (known_of before) fits.known text are) in
    let same : line_of number a.0 ≡ line = cc a.2 in
    subst (λ (found : Line). FitsLines (found ∷ before)) same
    (record {
      good = (
        record {
          fit_statement = has.fit_statement;
          titled = checked_titled (known_of before) text a.0 a.1;
          room = moved_room (known_of before) b.0 a.0 (is_placed_within before fits.good) b.2;
          within = ap is_in_part (location_more number a.0 before) ∙ checked_within (known_of before) text a.0 a.1;
        },
        fits.good,
      );
      known = names_fit (label_entry a.0.label a.0.move.label ++ external_entries (refs_in a.0.statement)) (names before) fits.known
          (defined_fit a.0.label a.0.move.label (refs_in a.0.statement) has.label);
    })

at_line_is : {A : Type 0} (number : ℕ) (answer : Result A AsmCause) (found : A) → at_line number answer ≡ Ok found → answer ≡ Ok found
at_line_is number (Ok value) found e = cc e
at_line_is number (Err refused) found e = cc e

last_by : (b : Bool) (found : Line) (before lines : List Line) (rest : List (ℕ × List ℕ))
    → (if b then Ok (found ∷ before) else layout_after check (found ∷ before) rest) ≡ Ok lines
    → FitsLines (found ∷ before) → (layout_after check (found ∷ before) rest ≡ Ok lines → FitsLines lines) → FitsLines lines
last_by true found before lines rest e fits next =
    let same : found ∷ before ≡ lines = cc e in
    subst FitsLines same fits
last_by false found before lines rest e fits next = next e

abbrev pub TextBytes : ℕ × List ℕ → Type 0
TextBytes text = AreBytes text.1

pub layout_fits : (texts : List (ℕ × List ℕ)) (before lines : List Line) → AllByRecursion TextBytes texts → layout_after check before texts ≡ Ok lines
    → FitsLines before → FitsLines lines
layout_fits [] before lines are e fits =
    let same : before ≡ lines = cc e in
    subst FitsLines same fits
layout_fits (text ∷ texts) before lines are e fits =
    let a = bound (at_line text.0 (check before text.0 text.1)) _ lines e in
    let good = line_good before text.0 text.1 a.0 fits are.0 (at_line_is text.0 (check before text.0 text.1) a.0 a.1) in
    last_by a.0.last a.0 before lines texts a.2 good (λ f. layout_fits texts (a.0 ∷ before) lines are.1 f good)

-- ---- how far relocatable code reaches

relocatable_le : (at : Part) (number : ℕ) → nat_le number (limit at) ≡ true → relocatable_by at number ≤ 65535
relocatable_le part.Relocatable number e = grind (arith, nat_tests, e)
relocatable_le part.Absolute number e = omega arith
relocatable_le part.Dummy number e = omega arith

max_le : (a b : ℕ) → a ≤ 65535 → b ≤ 65535 → max a b ≤ 65535
max_le a b le lt = omega (arith, le, lt)

pub reached_le : (lines : List Line) → AreGood lines → reached lines ≤ 65535
reached_le [] good = omega arith
reached_le (line ∷ before) good =
    let at = location (line ∷ before) in
    max_le (reached before) (relocatable at) (reached_le before good.1) (relocatable_le at.part at.number good.0.within)

-- ---- the names before the first line

find_fits : (name : List ℕ) (rows : List (List ℕ × Value)) → AllByRecursion FitsEntry rows → IfSome (find (slice_cmp nat_cmp) name rows) FitsValue
find_fits name [] all = tt
find_fits name (row ∷ rows) all =
    either_fits (eq_by_cmp (slice_cmp nat_cmp) name row.0) row.1 (find (slice_cmp nat_cmp) name rows) all.0 (find_fits name rows all.1)

rows_fit : (count first : ℕ) → first + count ≤ 65536
    → AllByRecursion FitsEntry (map (λ number. (register_name number, Absolute number)) (range_with_len first count))
rows_fit zero first le = tt
rows_fit (suc count) first le = (omega (arith, le), rows_fit count (first + 1) (omega (arith, le)))

registers_fit : AllByRecursion FitsEntry registers
unfolding registers
registers_fit = rows_fit 16 0 (omega arith)

predefined_fit : FitsLook (look_up predefined)
predefined_fit name =
    subst (λ (found : Option Value). IfSome found FitsValue) (sym (get-from_entries nat_list_cmp_total registers name)) (find_fits name registers registers_fit)

pub nothing_placed : FitsLines []
nothing_placed = record { good = tt; known = predefined_fit }
