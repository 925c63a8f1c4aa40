-- The listing of an accepted assembler source has a row for each line, and each name of its module.
use Rattle.std.proofs.Common.{inl, inr, ◌≡◌, ℕ, ◌+◌, ◌≤◌, Bool, true, false, cond, List, [], ◌∷◌, ◌++◌, Some, None, Ok, Err, length, refl, sym, ap}
use Rattle.std.proofs.Common.{subst}
use Rattle.std.proofs.Common.{◌∙◌, arith, nat_cmp}
use Rattle.std.specs.Prelude.{◌⊎◌, ◌≢◌, ⊤, Option, Result, map, if◌then◌else◌, is_some}
use Rattle.std.specs.List.{AllByRecursion}
use Rattle.std.specs.FinMap.{get, insert, get-insert}
use Rattle.std.specs.Ordering.{eq_by_cmp}
use Rattle.std.specs.Cmp.Lexicographic.{slice_cmp}
use Rattle.std.proofs.lemmas.Cmp.{nat_list_cmp_total}
use Rattle.std.proofs.lemmas.List.{length-map}
use Rattle.source_defs.specs.Fields.{fields}
use Rattle.source_defs.specs.Lines.{numbered}
use Rattle.source_defs.specs.Names.{same_text}
use Rattle.source_defs.specs.Refusals.{Refusal, unless, at_line}
use Rattle.source_defs.proofs.RefusalLaws.{bound}
use Rattle.expression_defs.specs.Expression.{Value, External, known_value}
use Rattle.expression_defs.specs.Symbols.{Names, look_up}
use Rattle.expression_defs.specs.Layout.{with_names, layout_after, line_layout, assembled_lines}
use Rattle.object_defs.specs.declared.spot.Spot.{Spot}
use Rattle.object_defs.specs.Modules.{Module, Definition, Reference}
use Rattle.asm_defs.specs.declared.causes.AsmCause.{AsmCause}
use Rattle.asm_defs.specs.declared.causes.AsmCause.TheVariants.{DuplicateLabel, Overflow, BadDirective}
use Rattle.asm_defs.specs.declared.location.Location.{Location}
use Rattle.asm_defs.specs.declared.location.Part.{Part}
use Rattle.asm_defs.specs.Locations.{Line, place}
use Rattle.asm_defs.specs.Statements.{Statement, Def, statement_in, as_text}
use Rattle.asm_defs.specs.FirstChecks.{EarlierLines, ParsedLine, Checked, names, any_known, is_known, label_in, refs_in, defs_in, refs, defs, repeats, is_taken}
use Rattle.asm_defs.specs.FirstChecks.{as_expr, move, is_too_far, is_bad, known_of, label_entry, external_entries, parsed, moved, checked, line_of, check}
use Rattle.asm_defs.specs.SecondChecks.{Outcome, Words, defined_here, defs_known, outcome}
use Rattle.asm_defs.specs.Memory.{AssembledLine, with_use, after_word, words_at, after_by, references_of, spot_by, is_placed_in}
use Rattle.asm_defs.specs.Modules.{assembled_line, spot_of, definition_in, unused, module_by, module_after}
use Rattle.shelf_defs.specs.Files.{Contents}
use Rattle.shelf_defs.specs.Copied.{PlacedLine, Ending, Open, Ended, Refused, Copied, copied_by}
use Rattle.shelf_defs.specs.Assembly.{texts, in_place, unless_refused, layout_copied, module_of_copied}
use Rattle.asm_list_defs.specs.Listed.{shown, ListedName, defined, listed_names, listing_after, listing_by, listing_of}
use Rattle.row_laws.specs.Listings.{Lists, ListsDefinition, ListsReference, ListsAll, ListingsHaveAll}
use Rattle.row_laws.proofs.RowsInRuns.{all_append, none_of_two}
use Rattle.row_laws.proofs.StandingNames.{paired_length, shown_length, defined_length, numbered_length, Lines, laid_length, IsDefined, IsAmong, among_left}
use Rattle.row_laws.proofs.StandingNames.{among_right, all_list, Stands, same_name, insert_self, names_in, lines_define, AllKnown, lines_stand, rows_values}

-- ---- names that are new

abbrev IsFresh : Names → List ℕ × Value → Type 0
IsFresh known entry = look_up known entry.0 ≡ None

other_name : (known : Names) (other name : List ℕ) (new : Value) → other ≢ name → look_up (insert known other new) name ≡ look_up known name
other_name known other name new apart = by (eq_by_cmp (slice_cmp nat_cmp) name other) refl (get-insert nat_list_cmp_total known other new name)
  where
    by : (tied : Bool) → eq_by_cmp (slice_cmp nat_cmp) name other ≡ tied → look_up (insert known other new) name ≡ cond tied (Some new) (get known name)
        → look_up (insert known other new) name ≡ look_up known name
    by true tied e = absurd (apart (sym (same_name name other tied)))
    by false tied e = e

fresh_keep : (entries : List (List ℕ × Value)) (first known : Names) (name : List ℕ) (value : Value) → AllByRecursion (IsFresh first) entries
    → look_up first name ≡ Some value → look_up known name ≡ Some value → look_up (with_names known entries) name ≡ Some value
fresh_keep [] first known name value fresh stood is = is
fresh_keep (entry ∷ entries) first known name value fresh stood is =
    let apart : entry.0 ≢ name = λ same. (let none : look_up first name ≡ None = sym (ap (look_up first) same) ∙ fresh.0 in cc (none, stood)) in
    fresh_keep entries first (insert known entry.0 entry.1) name value fresh.1 stood (other_name known entry.0 name entry.1 apart ∙ is)

insert_external : (known : Names) (other name : List ℕ) → look_up known name ≡ Some (External name)
    → look_up (insert known other (External other)) name ≡ Some (External name)
insert_external known other name is = by (eq_by_cmp (slice_cmp nat_cmp) name other) refl (get-insert nat_list_cmp_total known other (External other) name)
  where
    by : (tied : Bool) → eq_by_cmp (slice_cmp nat_cmp) name other ≡ tied
        → look_up (insert known other (External other)) name ≡ cond tied (Some (External other)) (get known name)
        → look_up (insert known other (External other)) name ≡ Some (External name)
    by true tied e = e ∙ ap (λ name. Some (External name)) (sym (same_name name other tied))
    by false tied e = e ∙ is

externals_keep : (some : List (List ℕ)) (known : Names) (name : List ℕ) → look_up known name ≡ Some (External name)
    → look_up (with_names known (external_entries some)) name ≡ Some (External name)
externals_keep [] known name is = is
externals_keep (other ∷ some) known name is = externals_keep some (insert known other (External other)) name (insert_external known other name is)

externals_stand : (some : List (List ℕ)) (known : Names) (name : List ℕ) → IsDefined some name
    → look_up (with_names known (external_entries some)) name ≡ Some (External name)
externals_stand [] known name is = absurd is
externals_stand (other ∷ some) known name (inl here) =
    externals_keep some (insert known other (External other)) name
    (subst (λ name. look_up (insert known other (External other)) name ≡ Some (External name)) here (insert_self known other (External other)))
externals_stand (other ∷ some) known name (inr later) = externals_stand some (insert known other (External other)) name later

line_externals : (label : Option (List ℕ)) (value : Value) (some : List (List ℕ)) (known : Names) (name : List ℕ) → IsDefined some name
    → look_up (with_names known (label_entry label value ++ external_entries some)) name ≡ Some (External name)
line_externals None value some known name is = externals_stand some known name is
line_externals (Some label) value some known name is = externals_stand some (insert known label value) name is

externals_named : (some : List (List ℕ)) (name : List ℕ) → IsDefined some name → IsDefined (names_in (external_entries some)) name
externals_named [] name is = absurd is
externals_named (other ∷ some) name (inl here) = inl here
externals_named (other ∷ some) name (inr later) = inr (externals_named some name later)

line_named : (label : Option (List ℕ)) (value : Value) (some : List (List ℕ)) (name : List ℕ) → IsDefined some name
    → IsDefined (names_in (label_entry label value ++ external_entries some)) name
line_named None value some name is = externals_named some name is
line_named (Some label) value some name is = inr (externals_named some name is)

unknown : {A : Type 0} (answer : Option A) → is_some answer ≡ false → answer ≡ None
unknown (Some value) e = cc e
unknown None e = refl

label_fresh : (known : Names) (label : Option (List ℕ)) (value : Value) → any_known known (label_in label) ≡ false
    → AllByRecursion (IsFresh known) (label_entry label value)
label_fresh known None value e = tt
label_fresh known (Some label) value e = (unknown (get known label) (none_of_two (is_known known label) false e).0, tt)

externals_fresh : (known : Names) (some : List (List ℕ)) → any_known known some ≡ false → AllByRecursion (IsFresh known) (external_entries some)
externals_fresh known [] e = tt
externals_fresh known (name ∷ some) e =
    let both = none_of_two (is_known known name) (any_known known some) e in
    (unknown (get known name) both.0, externals_fresh known some both.1)

-- ---- lines by the first checks

unless_ok : {A : Type 0} (against : Bool) (cause : AsmCause) (value found : A) → unless against cause value ≡ Ok found → (against ≡ false) × (value ≡ found)
unless_ok true cause value found e = cc e
unless_ok false cause value found e = (refl, cc e)

record AreNames (known : Names) (label : Option (List ℕ)) (statement : Statement) : Type 0 where
  new_label : any_known known (label_in label) ≡ false
  new_refs : any_known known (refs_in statement) ≡ false

parsed_new : (before : EarlierLines) (text : List ℕ) (line : ParsedLine) → parsed before text ≡ Ok line → AreNames before.names line.label line.statement
unfolding parsed
parsed_new before text line e =
    let a = bound (as_text (fields text)) _ line e in
    let b = bound (unless (any_known before.names (label_in a.0.label)) DuplicateLabel a.0.label) _ line a.2 in
    let c = bound (statement_in text a.0) _ line b.2 in
    let l = unless_ok (any_known before.names (label_in a.0.label)) DuplicateLabel a.0.label b.0 b.1 in
    let r = unless_ok (is_taken before.names b.0 (refs_in c.0)) DuplicateLabel (record { label = b.0; statement = c.0 }) line c.2 in
    subst (λ (line : ParsedLine). AreNames before.names line.label line.statement) r.1
    (record {
      new_label = subst (λ label. any_known before.names (label_in label) ≡ false) l.1 l.0;
      new_refs = (none_of_two (any_known before.names (refs_in c.0)) (repeats (label_in b.0) (refs_in c.0)) r.0).0;
    })

moved_new : (before : EarlierLines) (line : ParsedLine) (found : Checked) → moved before line ≡ Ok found → AreNames before.names line.label line.statement
    → AreNames before.names found.label found.statement
unfolding moved
moved_new before line found e new =
    let a = bound (as_expr (move before.names before.location before.reached line.statement)) _ found e in
    let b = bound (unless (is_too_far before line.statement a.0) Overflow a.0) _ found a.2 in
    let c = unless_ok (is_bad before line.label line.statement) BadDirective
    (record { label = line.label; statement = line.statement; move = b.0 }) found b.2 in
    subst (λ (found : Checked). AreNames before.names found.label found.statement) c.1 new

record IsNew (before : List Line) (line : Line) : Type 0 where
  fresh : AllByRecursion (IsFresh (names before)) line.names
  are_bytes_at : (name : List ℕ) → IsDefined (refs_in line.statement) name → look_up (names (line ∷ before)) name ≡ Some (External name)
  named : (name : List ℕ) → IsDefined (refs_in line.statement) name → IsDefined (names_in line.names) name

line_new : (before : List Line) (number : ℕ) (text : List ℕ) (line : Line) → check before number text ≡ Ok line → IsNew before line
line_new before number text line e =
    let a = bound (checked (known_of before) text) _ line e in
    let b = bound (parsed (known_of before) text) _ a.0 a.1 in
    let new = moved_new (known_of before) b.0 a.0 b.2 (parsed_new (known_of before) text b.0 b.1) in
    let same : line_of number a.0 ≡ line = cc a.2 in
    subst (IsNew before) same
    (record {
      fresh = all_append (IsFresh (names before)) (label_entry a.0.label a.0.move.label) (external_entries (refs_in a.0.statement))
          (label_fresh (names before) a.0.label a.0.move.label new.new_label) (externals_fresh (names before) (refs_in a.0.statement) new.new_refs);
      are_bytes_at = line_externals a.0.label a.0.move.label (refs_in a.0.statement) (names before);
      named = line_named a.0.label a.0.move.label (refs_in a.0.statement);
    })

abbrev AreNew : List Line → Type 0
AreNew [] = ⊤
AreNew (line ∷ before) = IsNew before line × AreNew before

line_found : {A : Type 0} (number : ℕ) (answer : Result A AsmCause) (found : A) → at_line number answer ≡ Ok found → answer ≡ Ok found
line_found number (Ok value) found e = cc e
line_found number (Err cause) found e = cc e

last_new : (last : Bool) (left : List (ℕ × List ℕ)) (found lines : List Line) → AreNew found → (layout_after check found left ≡ Ok lines → AreNew lines)
    → ◌≡◌ {A = Lines} (if last then Ok found else layout_after check found left) (Ok lines) → AreNew lines
last_new true left found lines new next e = let same : found ≡ lines = cc e in subst AreNew same new
last_new false left found lines new next e = next e

lines_new : (left : List (ℕ × List ℕ)) (before lines : List Line) → AreNew before → layout_after check before left ≡ Ok lines → AreNew lines
lines_new [] before lines new e = let same : before ≡ lines = cc e in subst AreNew same new
lines_new (text ∷ left) before lines new e =
    let a = bound (at_line text.0 (check before text.0 text.1)) _ lines e in
    let one : AreNew (a.0 ∷ before) = (line_new before text.0 text.1 a.0 (line_found text.0 (check before text.0 text.1) a.0 a.1), new) in
    last_new a.0.last left (a.0 ∷ before) lines one (λ e. lines_new left (a.0 ∷ before) lines one e) a.2

-- ---- the names of REF

defined_either : (first second : List (List ℕ)) (name : List ℕ) → IsDefined (first ++ second) name → IsDefined first name ⊎ IsDefined second name
defined_either [] second name is = inr is
defined_either (other ∷ first) second name (inl here) = inl (inl here)
defined_either (other ∷ first) second name (inr later) =
    elim (defined_either first second name later) [
      | inl one ↦ inl (inr one)
      | inr two ↦ inr two
    ]

-- an external name of lines, which one of them defines
record IsExternal (lines : List Line) (name : List ℕ) : Type 0 where
  stands : look_up (names lines) name ≡ Some (External name)
  among : IsAmong (defined lines) name

refs_external : (lines : List Line) → AreNew lines → (name : List ℕ) → IsDefined (refs lines) name → IsExternal lines name
refs_external [] new name is = absurd is
refs_external (line ∷ before) new name is =
    elim (defined_either (refs before) (refs_in line.statement) name is) [
      | inl earlier ↦
          let one = refs_external before new.1 name earlier in
          record {
            stands = fresh_keep line.names (names before) (names before) name (External name) new.0.fresh one.stands one.stands;
            among = among_left (defined before) (names_in line.names ∷ []) name one.among;
          }
      | inr here ↦
          record {
            stands = new.0.are_bytes_at name here;
            among = among_right (defined before) (names_in line.names ∷ []) name (inl (new.0.named name here));
          }
    ]

abbrev names_of_uses : List Reference → List (List ℕ)
names_of_uses uses = map (λ use_of. use_of.name) uses

use_by : (same : Bool) (name : List ℕ) (at : Spot) (use_of : Reference) (uses : List Reference) → names_of_uses (with_use uses name at) ≡ names_of_uses uses
    → names_of_uses (if same then record { name = use_of.name; last = at } ∷ uses else use_of ∷ with_use uses name at) ≡ names_of_uses (use_of ∷ uses)
use_by true name at use_of uses e = refl
use_by false name at use_of uses e = ap (λ others. use_of.name ∷ others) e

use_names : (uses : List Reference) (name : List ℕ) (at : Spot) → names_of_uses (with_use uses name at) ≡ names_of_uses uses
use_names [] name at = refl
use_names (use_of ∷ uses) name at = use_by (same_text use_of.name name) name at use_of uses (use_names uses name at)

word_names : (uses : List Reference) (at : Spot) (word : Value) → names_of_uses (after_word uses at word) ≡ names_of_uses uses
word_names uses at (External name) = use_names uses name at
word_names uses at _ = refl

words_names : (at : Part) (words : List Value) (uses : List Reference) (from : ℕ) → names_of_uses (words_at at uses from words).1 ≡ names_of_uses uses
words_names at [] uses from = refl
words_names at (word ∷ words) uses from =
    words_names at words (after_word uses (spot_by at from) word) (from + 2) ∙ word_names uses (spot_by at from) word

placed_names : (placed : Bool) (at : Part) (words : List Value) (uses : List Reference) (from : ℕ)
    → names_of_uses (if placed then (words_at at uses from words).1 else uses) ≡ names_of_uses uses
placed_names true at words uses from = words_names at words uses from
placed_names false at words uses from = refl

outcome_names : (line : AssembledLine) (some : Outcome) (uses : List Reference) → names_of_uses (after_by line.at uses some) ≡ names_of_uses uses
outcome_names line (Words words) uses = placed_names (is_placed_in line.at.part) line.at.part words uses line.at.number
outcome_names line _ uses = refl

references_names : (found : List AssembledLine) (uses : List Reference) → names_of_uses (references_of uses found) ≡ names_of_uses uses
references_names [] uses = refl
references_names (line ∷ before) uses = outcome_names line line.outcome (references_of uses before) ∙ references_names before uses

unused_names : (some : List (List ℕ)) → names_of_uses (map unused some) ≡ some
unused_names [] = refl
unused_names (name ∷ some) = ap (λ others. name ∷ others) (unused_names some)

all_defined : (P : List ℕ → Type 0) (some : List (List ℕ)) → ((name : List ℕ) → IsDefined some name → P name) → AllByRecursion P some
all_defined P [] each = tt
all_defined P (name ∷ some) each = (each name (inl refl), all_defined P some (λ other is. each other (inr is)))

all_uses : (P : List ℕ → Type 0) (uses : List Reference) → AllByRecursion P (names_of_uses uses) → AllByRecursion (λ use_of. P use_of.name) uses
all_uses P [] all = tt
all_uses P (use_of ∷ uses) all = (all.0, all_uses P uses all.1)

-- ---- the names of DEF

module _ (known : Names) where
  value_found : (name : List ℕ) (answer : Option Value) (value : Value) → look_up known name ≡ answer → as_expr (known_value answer) ≡ Ok value
      → Stands known name
  value_found name (Some found) value is e = (found, is)
  value_found name None value is e = cc e

  defs_stand : (at : Location) (some : List (List ℕ)) (found : Outcome) → defs_known (look_up known) at some ≡ Ok found → AllKnown known some
  defs_stand at [] found e = tt
  defs_stand at (name ∷ some) found e =
      let a = bound (as_expr (known_value (look_up known name))) _ found e in
      let b = bound (defined_here a.0) _ found a.2 in
      (value_found name (look_up known name) a.0 refl a.1, defs_stand at some found b.2)

  statement_defs : (at : Location) (statement : Statement) (found : Outcome) → outcome (look_up known) at statement ≡ Ok found
      → AllKnown known (defs_in statement)
  unfolding outcome
  statement_defs at (Def some) found e = defs_stand at some found e
  statement_defs at _ found e = tt

  lines_defs : (lines : List Line) (found : List AssembledLine) → assembled_lines (assembled_line known) lines ≡ Ok found → AllKnown known (defs lines)
  lines_defs [] found e = tt
  lines_defs (line ∷ before) found e =
      let a = bound (assembled_lines (assembled_line known) before) _ found e in
      let b = bound (at_line line.number (assembled_line known before a.0 line)) _ found a.2 in
      let c = bound (outcome (look_up known) (place before line) line.statement) _ b.0 (line_found line.number
      (assembled_line known before a.0 line) b.0 b.1) in
      all_append (Stands known) (defs before) (defs_in line.statement) (lines_defs before a.0 a.1) (statement_defs (place before line) line.statement c.0 c.1)

  all_definitions : (P : Definition → Type 0) (some : List (List ℕ)) → AllKnown known some
      → ((name : List ℕ) → Stands known name → P (definition_in known name))
      → AllByRecursion P (map (definition_in known) some)
  all_definitions P [] all each = tt
  all_definitions P (name ∷ some) all each = (each name all.0, all_definitions P some all.1 each)

-- ---- an accepted source

in_place_ok : {A : Type 0} (lines : List PlacedLine) (answer : Result A (Refusal AsmCause)) (found : A) → in_place lines answer ≡ Ok found → answer ≡ Ok found
in_place_ok lines (Ok value) found e = cc e
in_place_ok lines (Err refusal) found e = cc e

unless_refused_ok : (ending : Ending) (lines found : List Line) → unless_refused ending lines ≡ Ok found → lines ≡ found
unless_refused_ok Open lines found e = cc e
unless_refused_ok Ended lines found e = cc e
unless_refused_ok (Refused refusal) lines found e = cc e

laid_ok : (copied : Copied) (lines : List Line) → layout_copied copied ≡ Ok lines → line_layout check (numbered 1 (texts copied.lines)) ≡ Ok lines
laid_ok copied lines e =
    let a = bound (in_place copied.lines (line_layout check (numbered 1 (texts copied.lines)))) _ lines e in
    in_place_ok copied.lines (line_layout check (numbered 1 (texts copied.lines))) a.0 a.1 ∙ ap Ok (unless_refused_ok copied.ending a.0 lines a.2)

-- what is listed of a source that is accepted
module _ (copied : Copied) (lines : List Line) (found : List AssembledLine) (is : layout_copied copied ≡ Ok lines)
    (came : assembled_lines (assembled_line (names lines)) lines ≡ Ok found) where
  abbrev known : Names
  known = names lines

  abbrev rows : List ListedName
  rows = listed_names copied.lines lines

  few : length lines ≤ length copied.lines
  few =
      let le = laid_length (numbered 1 (texts copied.lines)) [] lines (laid_ok copied lines is) in
      omega (arith, le, numbered_length 1 (texts copied.lines), length-map {B = List ℕ} copied.lines (λ line. line.text))

  lists : (name : List ℕ) (value : Value) → IsAmong (defined lines) name → look_up known name ≡ Some value → Lists rows name value
  lists name value among stands = all_list known copied.lines (defined lines) name value (omega (arith, few, defined_length lines)) among stands

  definition_lists : (name : List ℕ) → Stands known name → ListsDefinition rows (definition_in known name)
  definition_lists name stands none = (stands.0, ap spot_of stands.1, lists name stands.0 (lines_define lines name stands.0 stands.1 none) stands.1)

  reference_lists : (name : List ℕ) → IsDefined (refs lines) name → Lists rows name (External name)
  reference_lists name among =
      let one = refs_external lines (lines_new (numbered 1 (texts copied.lines)) [] lines tt (laid_ok copied lines is)) name among in
      lists name (External name) one.among one.stands

  references_list : AllByRecursion (ListsReference rows) (references_of (map unused (refs lines)) found)
  references_list =
      let P : List ℕ → Type 0 = λ name. Lists rows name (External name) in
      let same = references_names found (map unused (refs lines)) ∙ unused_names (refs lines) in
      all_uses P (references_of (map unused (refs lines)) found) (subst (AllByRecursion P) (sym same) (all_defined P (refs lines) reference_lists))

of_copied : (copied : Copied) (m : Module) (contents : Contents) (source : List ℕ) → copied ≡ copied_by contents source → module_of_copied copied ≡ Ok m
    → ListsAll m contents source (listing_of copied)
of_copied copied m contents source same e =
    let a = bound (layout_copied copied) _ m e in
    let b = bound (assembled_lines (assembled_line (names a.0)) a.0) _ m (in_place_ok copied.lines (module_after a.0) m a.2) in
    let made : module_by a.0 b.0 ≡ m = cc b.2 in
    let all = names a.0 in
    let found : listing_of copied ≡ listing_after copied.lines a.0 (Ok b.0) = ap (listing_by copied.lines) a.1 ∙ ap (listing_after copied.lines a.0) b.1 in
    subst (λ listing. ListsAll m contents source listing) (sym found)
    (subst (λ (m : Module). ListsAll m contents source (listing_after copied.lines a.0 (Ok b.0))) made
    (record {
      lines = a.0;
      line_layout = ap layout_copied (sym same) ∙ a.1;
      rows =
          let size = shown_length (Some all) a.0 in
          paired_length copied.lines (shown (Some all) a.0) (omega (arith, few copied a.0 b.0 a.1 b.1, size)) ∙ size;
      values = rows_values all copied.lines (defined a.0) (lines_stand a.0);
      defs =
          all_definitions all (ListsDefinition (listed_names copied.lines a.0)) (defs a.0) (lines_defs all a.0 b.0 b.1)
          (definition_lists copied a.0 b.0 a.1 b.1);
      refs = references_list copied a.0 b.0 a.1 b.1;
    }))

pub listings_have_all : ListingsHaveAll
listings_have_all contents source m e = of_copied (copied_by contents source) m contents source refl e
