-- The rows of a listing of lines and of their names, and what names stand for.
use Rattle.std.proofs.Common.{inl, inr, ◌≡◌, ℕ, suc, ◌+◌, ◌≤◌, Bool, true, false, cond, List, [], ◌∷◌, ◌++◌, Some, None, Ok, length, refl, sym, ap}
use Rattle.std.proofs.Common.{◌∙◌, arith, nat_cmp, length-append}
use Rattle.std.specs.Prelude.{◌⊎◌, Option, Result, map, if◌then◌else◌}
use Rattle.std.specs.List.{AllByRecursion, flat_map}
use Rattle.std.specs.FinMap.{get, insert, get-insert}
use Rattle.std.specs.Ordering.{eq_by_cmp}
use Rattle.std.specs.Cmp.Lexicographic.{slice_cmp}
use Rattle.std.proofs.lemmas.Cmp.{nat_list_cmp_total}
use Rattle.std.proofs.lemmas.Map.Text.{is_eq-slice_cmp}
use Rattle.std.proofs.lemmas.Slice.Eq.{bytes_eq-Decides}
use Rattle.source_defs.specs.Lines.{numbered}
use Rattle.source_defs.specs.Refusals.{Refusal, at_line}
use Rattle.source_defs.proofs.RefusalLaws.{bound}
use Rattle.expression_defs.specs.Expression.{Value}
use Rattle.expression_defs.specs.Symbols.{Names, predefined, look_up}
use Rattle.expression_defs.specs.Layout.{with_names, layout_after}
use Rattle.asm_defs.specs.declared.causes.AsmCause.{AsmCause}
use Rattle.asm_defs.specs.Locations.{Line, place}
use Rattle.asm_defs.specs.FirstChecks.{names}
use Rattle.asm_defs.specs.FirstChecks.{check}
use Rattle.shelf_defs.specs.Copied.{PlacedLine}
use Rattle.asm_list_defs.specs.Listed.{shown_at, shown, paired, ListedName, defined, names_of_line}
use Rattle.row_laws.proofs.RowsInRuns.{all_append}
use Rattle.row_laws.specs.Listings.{Lists, HasValue}

-- ---- as many rows as lines

pub paired_length : {A B : Type 0} (items : List A) (others : List B) → length others ≤ length items → length (paired items others) ≡ length others
paired_length [] [] le = refl
paired_length [] (other ∷ others) le = absurd (omega (arith, le))
paired_length (item ∷ items) [] le = refl
paired_length (item ∷ items) (other ∷ others) le = ap suc (paired_length items others (omega (arith, le)))

pub shown_length : (known : Option Names) (lines : List Line) → length (shown known lines) ≡ length lines
shown_length known [] = refl
shown_length known (line ∷ before) =
    let last = shown_at known (place before line) line.origin line.statement in
    omega (arith, length-append (shown known before) (last ∷ []), shown_length known before)

pub defined_length : (lines : List Line) → length (defined lines) ≡ length lines
defined_length [] = refl
defined_length (line ∷ before) =
    let last : List (List ℕ) = map (λ entry. entry.0) line.names in
    omega (arith, length-append (defined before) (last ∷ []), defined_length before)

pub numbered_length : (number : ℕ) (lines : List (List ℕ)) → length (numbered number lines) ≡ length lines
numbered_length number [] = refl
numbered_length number (line ∷ lines) = ap suc (numbered_length (number + 1) lines)

abbrev pub Lines : Type 0
Lines = Result (List Line) (Refusal AsmCause)

last_length : (last : Bool) (left : List (ℕ × List ℕ)) (found lines : List Line) (count : ℕ) → length found ≤ count
    → (layout_after check found left ≡ Ok lines → length lines ≤ count) → ◌≡◌ {A = Lines} (if last then Ok found else layout_after check found left) (Ok lines)
    → length lines ≤ count
last_length true left found lines count le next e = let same : found ≡ lines = cc e in omega (arith, ap length same, le)
last_length false left found lines count le next e = next e

pub laid_length : (left : List (ℕ × List ℕ)) (before lines : List Line) → layout_after check before left ≡ Ok lines → length lines ≤ length before + length left
laid_length [] before lines e = let same : before ≡ lines = cc e in omega (arith, ap length same)
laid_length (text ∷ left) before lines e =
    let a = bound (at_line text.0 (check before text.0 text.1)) _ lines e in
    last_length a.0.last left (a.0 ∷ before) lines (length before + length (text ∷ left)) (omega arith)
    (λ e. omega (arith, laid_length left (a.0 ∷ before) lines e)) a.2

-- ---- a name among others

abbrev pub IsDefined : List (List ℕ) → List ℕ → Type 0
IsDefined [] name = ⊥
IsDefined (other ∷ others) name = (other ≡ name) ⊎ IsDefined others name

abbrev pub IsAmong : List (List (List ℕ)) → List ℕ → Type 0
IsAmong [] name = ⊥
IsAmong (some ∷ others) name = IsDefined some name ⊎ IsAmong others name

pub among_left : (first second : List (List (List ℕ))) (name : List ℕ) → IsAmong first name → IsAmong (first ++ second) name
among_left [] second name is = absurd is
among_left (some ∷ first) second name (inl here) = inl here
among_left (some ∷ first) second name (inr later) = inr (among_left first second name later)

pub among_right : (first second : List (List (List ℕ))) (name : List ℕ) → IsAmong second name → IsAmong (first ++ second) name
among_right [] second name is = is
among_right (some ∷ first) second name is = inr (among_right first second name is)

lists_left : (first second : List ListedName) (name : List ℕ) (value : Value) → Lists first name value → Lists (first ++ second) name value
lists_left [] second name value is = absurd is
lists_left (row ∷ first) second name value (inl here) = inl here
lists_left (row ∷ first) second name value (inr later) = inr (lists_left first second name value later)

lists_right : (first second : List ListedName) (name : List ℕ) (value : Value) → Lists second name value → Lists (first ++ second) name value
lists_right [] second name value is = is
lists_right (row ∷ first) second name value is = inr (lists_right first second name value is)

module _ (known : Names) where
  line_lists : (line : PlacedLine) (some : List (List ℕ)) (name : List ℕ) (value : Value) → IsDefined some name → look_up known name ≡ Some value
      → Lists (names_of_line known (line, some)) name value
  line_lists line [] name value is stands = absurd is
  line_lists line (other ∷ some) name value (inl here) is = inl (here, ap (look_up known) here ∙ is)
  line_lists line (other ∷ some) name value (inr later) is = inr (line_lists line some name value later is)

  pub all_list : (lines : List PlacedLine) (some : List (List (List ℕ))) (name : List ℕ) (value : Value) → length some ≤ length lines → IsAmong some name
      → look_up known name ≡ Some value → Lists (flat_map (names_of_line known) (paired lines some)) name value
  all_list [] [] name value le is stands = absurd is
  all_list (line ∷ lines) [] name value le is stands = absurd is
  all_list [] (one ∷ some) name value le is stands = absurd (omega (arith, le))
  all_list (line ∷ lines) (one ∷ some) name value le (inl here) stands =
      lists_left (names_of_line known (line, one)) (flat_map (names_of_line known) (paired lines some)) name value (line_lists line one name value here stands)
  all_list (line ∷ lines) (one ∷ some) name value le (inr later) stands =
      lists_right (names_of_line known (line, one)) (flat_map (names_of_line known) (paired lines some)) name value
      (all_list lines some name value (omega (arith, le)) later stands)

-- ---- what names stand for

abbrev pub Stands : Names → List ℕ → Type 0
Stands known name = (value : Value) × (look_up known name ≡ Some value)

pub same_name : (a b : List ℕ) → eq_by_cmp (slice_cmp nat_cmp) a b ≡ true → a ≡ b
same_name a b e = (bytes_eq-Decides a b).0 (sym (is_eq-slice_cmp a b) ∙ e)

self_name : (a : List ℕ) → eq_by_cmp (slice_cmp nat_cmp) a a ≡ true
self_name a = is_eq-slice_cmp a a ∙ (bytes_eq-Decides a a).1 refl

-- a name after one more is that one, or stood for the same before
one_more : (known : Names) (other name : List ℕ) (new value : Value) → look_up (insert known other new) name ≡ Some value
    → (other ≡ name) ⊎ (look_up known name ≡ Some value)
one_more known other name new value e = by (eq_by_cmp (slice_cmp nat_cmp) name other) refl (sym (get-insert nat_list_cmp_total known other new name) ∙ e)
  where
    by : (tied : Bool) → eq_by_cmp (slice_cmp nat_cmp) name other ≡ tied → cond tied (Some new) (get known name) ≡ Some value
        → (other ≡ name) ⊎ (look_up known name ≡ Some value)
    by true tied e = inl (sym (same_name name other tied))
    by false tied e = inr e

pub insert_self : (known : Names) (name : List ℕ) (value : Value) → look_up (insert known name value) name ≡ Some value
insert_self known name value = get-insert nat_list_cmp_total known name value name ∙ rw (self_name name) refl

insert_stands : (known : Names) (other name : List ℕ) (new : Value) → Stands known name → Stands (insert known other new) name
insert_stands known other name new stands = by (eq_by_cmp (slice_cmp nat_cmp) name other) (get-insert nat_list_cmp_total known other new name)
  where
    by : (tied : Bool) → look_up (insert known other new) name ≡ cond tied (Some new) (get known name) → Stands (insert known other new) name
    by true e = (new, e)
    by false e = (stands.0, e ∙ stands.1)

abbrev pub names_in : List (List ℕ × Value) → List (List ℕ)
names_in entries = map (λ entry. entry.0) entries

-- names of a line beside those before it
from_entries : (entries : List (List ℕ × Value)) (known : Names) (name : List ℕ) (value : Value) → look_up (with_names known entries) name ≡ Some value
    → (look_up known name ≡ Some value) ⊎ IsDefined (names_in entries) name
from_entries [] known name value e = inl e
from_entries (entry ∷ entries) known name value e =
    elim (from_entries entries (insert known entry.0 entry.1) name value e) [
      | inl before ↦ elim (one_more known entry.0 name entry.1 value before) [
        | inl here ↦ inr (inl here)
        | inr stood ↦ inl stood
      ]
      | inr later ↦ inr (inr later)
    ]

still_stands : (entries : List (List ℕ × Value)) (known : Names) (name : List ℕ) → Stands known name → Stands (with_names known entries) name
still_stands [] known name stands = stands
still_stands (entry ∷ entries) known name stands = still_stands entries (insert known entry.0 entry.1) name (insert_stands known entry.0 name entry.1 stands)

entries_stand : (entries : List (List ℕ × Value)) (known : Names) → AllByRecursion (Stands (with_names known entries)) (names_in entries)
entries_stand [] known = tt
entries_stand (entry ∷ entries) known =
    let new = insert known entry.0 entry.1 in
    (still_stands entries new entry.0 (entry.1, insert_self known entry.0 entry.1), entries_stand entries new)

-- a name of lines is defined by one of them, or stands for something from the start
pub lines_define : (lines : List Line) (name : List ℕ) (value : Value) → look_up (names lines) name ≡ Some value → look_up predefined name ≡ None
    → IsAmong (defined lines) name
lines_define [] name value e none = cc (e, none)
lines_define (line ∷ before) name value e none =
    elim (from_entries line.names (names before) name value e) [
      | inl stood ↦ among_left (defined before) (names_in line.names ∷ []) name (lines_define before name value stood none)
      | inr here ↦ among_right (defined before) (names_in line.names ∷ []) name (inl here)
    ]

all_mapped : {A : Type 0} (P Q : A → Type 0) (items : List A) → AllByRecursion P items → ((item : A) → P item → Q item) → AllByRecursion Q items
all_mapped P Q [] all each = tt
all_mapped P Q (item ∷ items) all each = (each item all.0, all_mapped P Q items all.1 each)

abbrev pub AllKnown : Names → List (List ℕ) → Type 0
AllKnown known some = AllByRecursion (Stands known) some

pub lines_stand : (lines : List Line) → AllByRecursion (AllKnown (names lines)) (defined lines)
lines_stand [] = tt
lines_stand (line ∷ before) =
    all_append (AllKnown (names (line ∷ before))) (defined before) (names_in line.names ∷ [])
    (all_mapped (AllKnown (names before)) (AllKnown (names (line ∷ before))) (defined before) (lines_stand before)
    (λ some all. all_mapped (Stands (names before)) (Stands (names (line ∷ before))) some all (λ name stands. still_stands line.names
    (names before) name stands)))
    (entries_stand line.names (names before), tt)

-- the rows of names have values
line_values : (known : Names) (line : PlacedLine) (some : List (List ℕ)) → AllKnown known some → AllByRecursion HasValue (names_of_line known (line, some))
line_values known line [] all = tt
line_values known line (name ∷ some) all = (all.0, line_values known line some all.1)

pub rows_values : (known : Names) (lines : List PlacedLine) (some : List (List (List ℕ))) → AllByRecursion (AllKnown known) some
    → AllByRecursion HasValue (flat_map (names_of_line known) (paired lines some))
rows_values known [] some all = tt
rows_values known (line ∷ lines) [] all = tt
rows_values known (line ∷ lines) (one ∷ some) all =
    all_append HasValue (names_of_line known (line, one)) (flat_map (names_of_line known) (paired lines some)) (line_values known line one all.0)
    (rows_values known lines some all.1)
