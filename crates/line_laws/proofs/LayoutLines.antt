-- Lines that are known by themselves are placed one after the other.
use Rattle.std.proofs.Common.{◌≡◌, ℕ, ◌+◌, Bool, true, false, List, [], ◌∷◌, ◌++◌, Some, None, Ok, refl, sym, ap}
use Rattle.std.proofs.Common.{subst, ◌∙◌, arith}
use Rattle.std.specs.Prelude.{Option, Result, ◌&&◌, ◌||◌, not, is_some, if◌then◌else◌}
use Rattle.std.proofs.lemmas.Cmp.{nat_list_cmp_total}
use Rattle.std.specs.FinMap.{insert, get-insert}
use Rattle.source_defs.specs.Refusals.{◌>>=◌, at_line, unless}
use Rattle.source_defs.specs.Fields.{Fields, fields}
use Rattle.expression_defs.specs.Symbols.{Names, look_up}
use Rattle.expression_defs.specs.Expression.{Value}
use Rattle.source_defs.specs.Lines.{numbered}
use Rattle.expression_defs.specs.Layout.{layout_after, with_names, has_ended, set_or, since_origin, bytes_taken}
use Rattle.asm_defs.specs.declared.causes.AsmCause.{AsmCause}
use Rattle.asm_defs.specs.declared.location.Location.{Location}
use Rattle.asm_defs.specs.Statements.{Statement, as_text, statement_in, Nothing, Instruction, Aorg, Equ, Data}
use Rattle.asm_defs.specs.Locations.{Line, after, location}
use Rattle.asm_defs.specs.FirstChecks.{Checked, ParsedLine, any_known, label_in, moved, checked, check, known_of}
use Rattle.asm_defs.specs.FirstChecks.{line_of, location_after, names, refs, defs, refs_in, defs_in, is_end}
use Rattle.asm_defs.specs.FirstChecks.{label_entry, external_entries}
use Rattle.asm_defs.specs.FirstChecks.{is_too_far, is_bad, as_expr, move}
use Rattle.asm_defs.specs.declared.causes.AsmCause.TheVariants.{Overflow, BadDirective}
use Rattle.asm_defs.specs.SecondChecks.{outcome}
use Rattle.asm_defs.proofs.CheckLaws.{bound}
use Rattle.line_laws.specs.KnownLines.{KnownLine, nothing_before, known_line, known_lines, names_in, all_names}
use Rattle.line_laws.specs.KnownLines.{names_after, look_in, are_new, is_plain, is_plain_statement, are_plain}
use Rattle.line_laws.specs.KnownLines.{end_of}
use Rattle.line_laws.proofs.EarlierLines.{is_free, same_statement, moved_same}
use Rattle.line_laws.proofs.Small.{both, append_none}

-- what a line that is known by itself is made of
pub record Parts (look : List ℕ → Option Value) (at : Location) (text : List ℕ) (line : KnownLine) : Type 0 where
  pub there : Fields
  pub statement : Statement
  pub are_fields : as_text (fields text) ≡ Ok there
  pub parses : statement_in text there ≡ Ok statement
  pub leads : moved (nothing_before at) (record { label = there.label; statement = statement }) ≡ Ok line.found
  pub comes : outcome look line.at line.found.statement ≡ Ok line.outcome
  pub place_is : line.at ≡ after at line.found.move.gap

pub parts_of : (look : List ℕ → Option Value) (at : Location) (text : List ℕ) (line : KnownLine) → known_line look at text ≡ Ok line → Parts look at text line
parts_of look at text line e =
    let a = bound (as_text (fields text)) _ line e in
    let b = bound (statement_in text a.0) _ line a.2 in
    let c = bound (moved (nothing_before at) (record { label = a.0.label; statement = b.0 })) _ line b.2 in
    let d = bound (outcome look (after at c.0.move.gap) c.0.statement) _ line c.2 in
    let made : ◌≡◌ {A = KnownLine} (record { at = after at c.0.move.gap; found = c.0; outcome = d.0 }) line = cc (d.2) in
    let is : c.0 ≡ line.found = ap (λ (l : KnownLine). l.found) made in
    let placed : after at c.0.move.gap ≡ line.at = ap (λ (l : KnownLine). l.at) made in
    let come : d.0 ≡ line.outcome = ap (λ (l : KnownLine). l.outcome) made in
    record {
      there = a.0;
      statement = b.0;
      are_fields = a.1;
      parses = b.1;
      leads = c.1 ∙ ap Ok is;
      comes = subst (λ place. outcome look place line.found.statement ≡ Ok line.outcome) placed
          (subst (λ (found : Checked). outcome look (after at c.0.move.gap) found.statement ≡ Ok line.outcome) is (d.1 ∙ ap Ok come));
      place_is = sym placed ∙ ap (λ (found : Checked). after at found.move.gap) is;
    }

accepted : {A : Type 0} (b : Bool) (cause : AsmCause) (value found : A) → unless b cause value ≡ Ok found → value ≡ found
accepted true cause value found e = cc e
accepted false cause value found e = cc e

-- the first checks keep the label and the statement
pub statement_kept : (at : Location) (line : ParsedLine) (found : Checked) → moved (nothing_before at) line ≡ Ok found → (line.label ≡ found.label) × (line.statement ≡ found.statement)
unfolding moved
statement_kept at line found e =
    let before = nothing_before at in
    let a = bound (as_expr (move before.names before.location before.reached line.statement)) _ found e in
    let b = bound (unless (is_too_far before line.statement a.0) Overflow a.0) _ found a.2 in
    let d = accepted (is_bad before line.label line.statement) BadDirective (record { label = line.label; statement = line.statement; move = b.0 }) found b.2 in
    (ap (λ (line : Checked). line.label) d, ap (λ (line : Checked). line.statement) d)

-- a line after others
module _ (look : List ℕ → Option Value) (text : List ℕ) (line : KnownLine) where
  pub checked_after : (before : List Line) → known_line look (location before) text ≡ Ok line → is_free line.found.statement ≡ true
      → any_known (names before) (label_in line.found.label) ≡ false → checked (known_of before) text ≡ Ok line.found
  checked_after before e free new =
      let p = parts_of look (location before) text line e in
      let kept = statement_kept (location before) (record { label = p.there.label; statement = p.statement }) line.found p.leads in
      let free_there : is_free p.statement ≡ true = ap is_free kept.1 ∙ free in
      let new_there : any_known (names before) (label_in p.there.label) ≡ false = ap (λ label. any_known (names before) (label_in label)) kept.0 ∙ new in
      ap (λ answer. answer >>= moved (known_of before))
      (same_statement (names before) (location before) (known_of before).reached (defs before) (refs before) text p.there p.statement p.are_fields p.parses free_there new_there)
      ∙ moved_same (names before) (location before) (known_of before).reached (defs before) (refs before) (record { label = p.there.label; statement = p.statement }) line.found free_there p.leads

  pub check_after : (before : List Line) (number : ℕ) → known_line look (location before) text ≡ Ok line → is_free line.found.statement ≡ true
      → any_known (names before) (label_in line.found.label) ≡ false → check before number text ≡ Ok (line_of number line.found)
  check_after before number e free new = ap (λ answer. answer >>= λ found. Ok (line_of number found)) (checked_after before e free new)

-- the location after one line more
location_by : (origin : Option Location) (here : Location) (before : List Line) (gap size : ℕ)
    → after (set_or origin here) (bytes_taken (if is_some origin then [] else since_origin before) + (gap + size))
    ≡ after (set_or origin (after here (bytes_taken (since_origin before)))) (gap + size)
location_by (Some location) here before gap size =
    let sum : 0 + (gap + size) ≡ gap + size = omega arith in
    ap (after location) sum
location_by None here before gap size =
    let since = bytes_taken (since_origin before) in
    let sum : here.number + (since + (gap + size)) ≡ here.number + since + (gap + size) = omega arith in
    ap (λ number. record { part = here.part; number = number }) sum

pub location_more : (before : List Line) (number : ℕ) (found : Checked)
    → location (line_of number found ∷ before) ≡ location_after (location before) found.move
location_more before number found = location_by found.move.origin _ before found.move.gap found.move.size

-- what names stand for after some lines
abbrev pub LooksUpIn : Names → List (List ℕ × Value) → Type 0
LooksUpIn known entries = (name : List ℕ) → look_up known name ≡ look_in entries name

pub one_more : (known : Names) (entries : List (List ℕ × Value)) (entry : List ℕ × Value) → LooksUpIn known entries → LooksUpIn (insert known entry.0 entry.1) (entry ∷ entries)
one_more known entries entry at_place name =
    get-insert nat_list_cmp_total known entry.0 entry.1 name ∙ rw (at_place name) refl

-- names after others, one list after the other
pub names_append : (known entries others : List (List ℕ × Value)) → names_after known (entries ++ others) ≡ names_after (names_after known entries) others
names_append known [] others = refl
names_append known (entry ∷ entries) others = names_append (entry ∷ known) entries others

-- a line whose label is new
pub record IsNew (known : Names) (entries more : List (List ℕ × Value)) (label : Option (List ℕ)) (value : Value) : Type 0 where
  pub fresh : any_known known (label_in label) ≡ false
  pub rest : are_new (names_after entries (label_entry label value)) more ≡ true
  pub at_place : LooksUpIn (with_names known (label_entry label value)) (names_after entries (label_entry label value))

not_known : (found : Option Value) (rest : Bool) → (not (is_some found) && rest) ≡ true → (is_some found ≡ false) × (rest ≡ true)
not_known (Some value) rest e = cc e
not_known None rest e = (refl, e)

pub new_by : (known : Names) (entries more : List (List ℕ × Value)) (label : Option (List ℕ)) (value : Value) → LooksUpIn known entries
    → are_new entries (label_entry label value ++ more) ≡ true → IsNew known entries more label value
new_by known entries more None value at_place new = record { fresh = refl; rest = new; at_place = at_place }
new_by known entries more (Some name) value at_place new =
    let both = not_known (look_in entries name) _ new in
    record {
      fresh = ap (λ found. is_some found || false) (at_place name) ∙ ap (λ b. b || false) both.0;
      rest = both.1;
      at_place = one_more known entries (name, value) at_place;
    }

-- what plain statements leave out
pub record IsFree (statement : Statement) : Type 0 where
  pub free : is_free statement ≡ true
  pub refs : refs_in statement ≡ []
  pub defs : defs_in statement ≡ []
  pub going_on : is_end statement ≡ false

pub plain_free : (statement : Statement) → is_plain_statement statement ≡ true → IsFree statement
plain_free Nothing plain = record { free = refl; refs = refl; defs = refl; going_on = refl }
plain_free (Instruction size operation field) plain = record { free = refl; refs = refl; defs = refl; going_on = refl }
plain_free (Aorg text) plain = record { free = refl; refs = refl; defs = refl; going_on = refl }
plain_free (Equ text) plain = record { free = refl; refs = refl; defs = refl; going_on = refl }
plain_free (Data texts) plain = record { free = refl; refs = refl; defs = refl; going_on = refl }
plain_free _ plain = cc plain

-- the lines as they are placed after others
abbrev pub layout_list : List Line → ℕ → List KnownLine → List Line
layout_list before number [] = before
layout_list before number (line ∷ lines) = layout_list (line_of number line.found ∷ before) (number + 1) lines

append_nothing : (entries : List (List ℕ × Value)) (label : Option (List ℕ)) (value : Value) → entries ≡ [] → label_entry label value ++ entries ≡ label_entry label value
append_nothing entries None value e = e
append_nothing entries (Some name) value e = ap (λ entries. (name, value) ∷ entries) e

-- what is so of such lines
pub record AreLaidOut (look : List ℕ → Option Value) (texts : List (List ℕ)) (lines : List KnownLine) (before : List Line) (number : ℕ) (known : List (List ℕ × Value)) : Type 0 where
  pub line_layout : layout_after check before (numbered number texts) ≡ Ok (layout_list before number lines)
  pub at : location (layout_list before number lines) ≡ end_of (location before) lines
  pub names : LooksUpIn (names (layout_list before number lines)) (names_after known (all_names lines))
  pub going_on : has_ended (layout_list before number lines) ≡ has_ended before
  pub refs : refs (layout_list before number lines) ≡ refs before
  pub defs : defs (layout_list before number lines) ≡ defs before

module _ (look : List ℕ → Option Value) where
  abbrev Others : Location → List (List ℕ) → KnownLine → List KnownLine → Type 0
  Others at texts line others = known_lines look (location_after at line.found.move) texts ≡ Ok others

  -- the first of some lines, and the others
  pub record First (at : Location) (text : List ℕ) (texts : List (List ℕ)) (line : KnownLine) (lines : List KnownLine) : Type 0 where
    pub is : known_line look at text ≡ Ok line
    pub others : Others at texts line lines

  pub first_of : (at : Location) (text : List ℕ) (texts : List (List ℕ)) (lines : List KnownLine) → known_lines look at (text ∷ texts) ≡ Ok lines
      → (line : KnownLine) × (others : List KnownLine) × (lines ≡ line ∷ others) × First at text texts line others
  first_of at text texts lines e =
      let a = bound (known_line look at text) _ lines e in
      let b = bound (known_lines look (location_after at a.0.found.move) texts) _ lines a.2 in
      (a.0, b.0, sym (cc (b.2)), record { is = a.1; others = b.1 })

  going : (check_one : Result Line AsmCause) (found : Line) (before : List Line) (rest : List (ℕ × List ℕ)) (number : ℕ) → check_one ≡ Ok found → found.last ≡ false
      → (at_line number check_one >>= λ line. if line.last then Ok (line ∷ before) else layout_after check (line ∷ before) rest) ≡ layout_after check (found ∷ before) rest
  going check_one found before rest number e going_on = rw e (rw going_on refl)

  abbrev LaysAll : List (List ℕ) → List KnownLine → Type 0
  LaysAll texts lines =
      (before : List Line) (number : ℕ) (known : List (List ℕ × Value)) → known_lines look (location before) texts ≡ Ok lines
      → are_plain lines ≡ true → LooksUpIn (names before) known → are_new known (all_names lines) ≡ true → AreLaidOut look texts lines before number known

  -- one line, and then the others
  module _ (text : List ℕ) (texts : List (List ℕ)) (line : KnownLine) (others : List KnownLine) (lays : LaysAll texts others) (before : List Line) (number : ℕ) (known : List (List ℕ × Value)) where
    abbrev here : Line
    here = line_of number line.found

    first_layout : First (location before) text texts line others → are_plain (line ∷ others) ≡ true → LooksUpIn (names before) known
        → are_new known (all_names (line ∷ others)) ≡ true → AreLaidOut look (text ∷ texts) (line ∷ others) before number known
    first_layout first plain at_place new =
        let fair = both (is_plain line) (are_plain others) plain in
        let free = plain_free line.found.statement (both _ _ fair.0).0 in
        let fresh = new_by (names before) known (all_names others) line.found.label line.found.move.label at_place new in
        let there = location_more before number line.found in
        let own : here.names ≡ names_in line = append_nothing _ line.found.label line.found.move.label (ap (λ names. external_entries names) free.refs) in
        let at_next : LooksUpIn (names (here ∷ before)) (names_after known (names_in line)) =
        subst (λ entries. LooksUpIn (with_names (names before) entries) (names_after known (names_in line))) (sym own) fresh.at_place in
        let next = lays (here ∷ before) (number + 1) (names_after known (names_in line))
        (ap (λ at. known_lines look at texts) there ∙ first.others) fair.1 at_next fresh.rest in
        let checked = check_after look text line before number first.is free.free fresh.fresh in
        record {
          line_layout = going (check before number text) here before (numbered (number + 1) texts) number checked free.going_on ∙ next.line_layout;
          at = next.at ∙ ap (λ at. end_of at others) there;
          names = subst (λ entries. LooksUpIn (names (layout_list (here ∷ before) (number + 1) others)) entries) (sym (names_append known (names_in line) (all_names others))) next.names;
          going_on = next.going_on ∙ ap (λ b. b || has_ended before) free.going_on;
          refs = next.refs ∙ append_none (refs before) (refs_in line.found.statement) free.refs;
          defs = next.defs ∙ append_none (defs before) (defs_in line.found.statement) free.defs;
        }

  pub earlier_layout : (texts : List (List ℕ)) (lines : List KnownLine) → LaysAll texts lines
  earlier_layout [] lines before number known e plain at_place new =
      let none : ◌≡◌ {A = List KnownLine} [] lines = cc e in
      subst (λ lines. AreLaidOut look [] lines before number known) none
      (record { line_layout = refl; at = refl; names = at_place; going_on = refl; refs = refl; defs = refl })
  earlier_layout (text ∷ texts) lines before number known e plain at_place new =
      let f = first_of (location before) text texts lines e in
      subst (λ lines. AreLaidOut look (text ∷ texts) lines before number known) (sym f.2)
      (first_layout text texts f.0 f.1 (earlier_layout texts f.1) before number known f.3
      (subst (λ lines. are_plain lines ≡ true) f.2 plain) at_place (subst (λ lines. are_new known (all_names lines) ≡ true) f.2 new))
