-- What the first checks know of a line that they accept.
use Rattle.std.proofs.Common.{◌≡◌, ℕ, ◌+◌, ◌≤◌, Bool, true, false, not, ◌||◌, List, Some, None, Ok, Err, refl, ap, subst, ◌∙◌, arith}
use Rattle.std.specs.Prelude.{Option, Result, nat_le, ◌⊎◌, ◌&&◌, ⊤}
use Rattle.std.proofs.Common.{inl, inr}
use Rattle.expression_defs.specs.declared.causes.ExprError.{ExprError}
use Rattle.asm_defs.specs.declared.causes.AsmCause.TheVariants.{DuplicateLabel, Overflow, BadDirective}
use Rattle.std.proofs.lemmas.Bool.Decides.{nat_tests}
use Rattle.source_defs.specs.Refusals.{◌>>=◌, unless}
use Rattle.source_defs.specs.QuotedTexts.{is_quoted}
use Rattle.source_defs.specs.Fields.{fields}
use Rattle.expression_defs.specs.Symbols.{Names}
use Rattle.expression_defs.specs.Layout.{set_or}
use Rattle.asm_defs.specs.declared.causes.AsmCause.{AsmCause}
use Rattle.asm_defs.specs.declared.location.Part.{Part}
use Rattle.asm_defs.specs.declared.location.Part.TheVariants as part
use Rattle.asm_defs.specs.declared.location.Location.{Location}
use Rattle.asm_defs.specs.Statements.{Statement, Aorg, Rorg, Dorg, Bss, Bes, Equ, Idt}
use Rattle.asm_defs.specs.Statements.{parse_line, statement_in, as_text}
use Rattle.asm_defs.specs.Locations.{after, is_in_part, limit}
use Rattle.asm_defs.specs.FirstChecks.{EarlierLines, ParsedLine, Checked, LocationChange, any_known, label_in, is_taken, refs_in, parsed, moved, checked, move, as_expr}
use Rattle.asm_defs.specs.FirstChecks.{is_too_far, lists_too_many, is_bad, is_title, location_after, absolute_in, value, non_external_number, non_external}
use Rattle.asm_defs.specs.Growing.{declared_size}

-- a value that an answer is made of
pub bound : {A B E : Type 0} (answer : Result A E) (make : A → Result B E) (made : B) → (answer >>= make) ≡ Ok made
    → (value : A) × (answer ≡ Ok value) × (make value ≡ Ok made)
bound (Ok value) make made e = (value, refl, e)
bound (Err error) make made e = cc e

-- nothing speaks against what is accepted
accepted : {A : Type 0} (b : Bool) (cause : AsmCause) (value found : A) → unless b cause value ≡ Ok found → (b ≡ false) × (value ≡ found)
accepted true cause value found e = cc e
accepted false cause value found e = (refl, cc e)

abbrev answers : {A : Type 0} → Result A ExprError → Result A ExprError → Type 0
answers a b = a ≡ b

-- a line that places bytes goes on from the location, and a line that sets it places none
abbrev Fits : ℕ → LocationChange → Type 0
Fits size move = ((move.origin ≡ None) × (size ≤ move.size)) ⊎ ((size ≡ 0) × (move.gap ≡ 0))

fits_by : {A E : Type 0} (size : ℕ) (answer : Result A E) (make : A → Result LocationChange E) (found : LocationChange) → (answer >>= make) ≡ Ok found
    → ((value : A) → make value ≡ Ok found → Fits size found) → Fits size found
fits_by size (Ok value) make found e each = each value e
fits_by size (Err error) make found e each = cc e

ok_fits : (size : ℕ) (made found : LocationChange) → answers (Ok made) (Ok found) → Fits size made → Fits size found
ok_fits size made found e fits =
    let same : made ≡ found = cc e in
    subst (Fits size) same fits

module _ (known : Names) (here : Location) (reached : ℕ) where
  move_fits : (statement : Statement) (found : LocationChange) → move known here reached statement ≡ Ok found
      → Fits (declared_size statement) found
  move_fits (Aorg text) found e =
      fits_by 0 (absolute_in known here text) _ found e (λ value f. ok_fits 0 _ found f (inr (refl, refl)))
  move_fits (Rorg None) found e = ok_fits 0 _ found e (inr (refl, refl))
  move_fits (Rorg (Some text)) found e =
      fits_by 0 (value known here text >>= non_external_number) _ found e (λ value f. ok_fits 0 _ found f (inr (refl, refl)))
  move_fits (Dorg text) found e =
      fits_by 0 (absolute_in known here text) _ found e (λ value f. ok_fits 0 _ found f (inr (refl, refl)))
  move_fits (Bss text) found e =
      fits_by 0 (absolute_in known here text) _ found e (λ value f. ok_fits 0 _ found f (inl (refl, omega arith)))
  move_fits (Bes text) found e =
      fits_by 0 (absolute_in known here text) _ found e (λ value f. ok_fits 0 _ found f (inl (refl, omega arith)))
  move_fits (Equ text) found e =
      fits_by 0 (value known here text >>= non_external) _ found e (λ value f. ok_fits 0 _ found f (inl (refl, omega arith)))
  move_fits _ found e = ok_fits _ _ found e (inl (refl, omega arith))

limit_le : (found : Part) → limit found ≤ 65536
limit_le part.Relocatable = omega arith
limit_le part.Absolute = omega arith
limit_le part.Dummy = omega arith

expr_bound : {A : Type 0} (answer : Result A ExprError) (found : A) → as_expr answer ≡ Ok found → answer ≡ Ok found
expr_bound (Ok value) found e = cc e
expr_bound (Err error) found e = cc e

-- the name that IDT gives is that of a module
abbrev pub IsTitled : Statement → Type 0
IsTitled (Idt text) = is_title text ≡ true
IsTitled _ = ⊤

both : (a b : Bool) → not (a && b) ≡ false → b ≡ true
both true true e = refl
both true false e = cc e
both false b e = cc e

module _ (before : EarlierLines) where
  titled_by : (label : Option (List ℕ)) (statement : Statement) → is_bad before label statement ≡ false → IsTitled statement
  titled_by None (Idt text) fine = both (is_quoted text) (is_title text) fine
  titled_by (Some name) (Idt text) fine = both (is_quoted text) (is_title text) fine
  titled_by label _ fine = tt

  -- what the first checks accept is what the line says
  statement_is : (text : List ℕ) (found : ParsedLine) → parsed before text ≡ Ok found → parse_line text ≡ Ok found.statement
  unfolding parsed
  statement_is text found e =
      let a = bound (as_text (fields text)) _ found e in
      let b = bound (unless (any_known before.names (label_in a.0.label)) DuplicateLabel a.0.label) _ found a.2 in
      let c = bound (statement_in text a.0) _ found b.2 in
      let d = accepted (is_taken before.names b.0 (refs_in c.0)) DuplicateLabel (record { label = b.0; statement = c.0 }) found c.2 in
      let same : c.0 ≡ found.statement = ap (λ (line : ParsedLine). line.statement) d.1 in
      ap (λ answer. answer >>= statement_in text) a.1 ∙ (c.1 ∙ ap Ok same)

  -- a module's name is one
  named_is : (line : ParsedLine) → is_bad before line.label line.statement ≡ false → IsTitled line.statement
  named_is line fine = titled_by line.label line.statement fine

  -- and where it leads lies in its part
  record Leads (line : ParsedLine) (found : Checked) : Type 0 where
    statement : line.statement ≡ found.statement
    fits : Fits (declared_size found.statement) found.move
    titled : IsTitled found.statement
    few : lists_too_many before found.statement ≡ false
    within : is_in_part (location_after before.location found.move) ≡ true

  not_false : (a b : Bool) → (not a || b) ≡ false → a ≡ true
  not_false true b e = refl
  not_false false b e = cc e

  second_false : (a b : Bool) → (not a || b) ≡ false → b ≡ false
  second_false true b e = e
  second_false false b e = cc e

  moved_is : (line : ParsedLine) (found : Checked) → moved before line ≡ Ok found → Leads line found
  unfolding moved
  moved_is line found e =
      let a = bound (as_expr (move before.names before.location before.reached line.statement)) _ found e in
      let b = bound (unless (is_too_far before line.statement a.0) Overflow a.0) _ found a.2 in
      let c = accepted (is_too_far before line.statement a.0) Overflow a.0 b.0 b.1 in
      let d = accepted (is_bad before line.label line.statement) BadDirective (record { label = line.label; statement = line.statement; move = b.0 }) found b.2 in
      let same_statement : line.statement ≡ found.statement = ap (λ (line : Checked). line.statement) d.1 in
      let move_same : a.0 ≡ found.move = c.1 ∙ ap (λ (line : Checked). line.move) d.1 in
      let fits = move_fits before.names before.location before.reached line.statement a.0 (expr_bound _ _ a.1) in
      let stays = not_false (is_in_part (location_after before.location a.0)) (lists_too_many before line.statement) c.0 in
      record {
        statement = same_statement;
        fits = subst (λ statement. Fits (declared_size statement) found.move) same_statement (subst (Fits (declared_size line.statement)) move_same fits);
        titled = subst IsTitled same_statement (named_is line d.0);
        few = subst (λ statement. lists_too_many before statement ≡ false) same_statement
            (second_false (is_in_part (location_after before.location a.0)) (lists_too_many before line.statement) c.0);
        within = subst (λ move. is_in_part (location_after before.location move) ≡ true) move_same stays;
      }

  pub checked_parses : (text : List ℕ) (found : Checked) → checked before text ≡ Ok found → parse_line text ≡ Ok found.statement
  checked_parses text found e =
      let a = bound (parsed before text) _ found e in
      statement_is text a.0 a.1 ∙ ap Ok (moved_is a.0 found a.2).statement

  room_by : (location : Location) (statement : Statement) (move : LocationChange) → is_in_part location ≡ true → Fits (declared_size statement) move
      → is_in_part (location_after location move) ≡ true → location.number + move.gap + declared_size statement ≤ 65536
  room_by location statement move here (inl (none, le)) there =
      let after_it : nat_le (location.number + (move.gap + move.size)) (limit location.part) ≡ true =
      subst (λ origin. is_in_part (after (set_or origin location) (move.gap + move.size)) ≡ true) none there in
      grind (arith, nat_tests, after_it, limit_le location.part, le)
  room_by location statement move here (inr (nothing, gap)) there =
      grind (arith, nat_tests, here, limit_le location.part, nothing, gap)

  -- a line has room at its place if its statement is accepted
  pub moved_room : (line : ParsedLine) (found : Checked) → is_in_part before.location ≡ true → moved before line ≡ Ok found
      → before.location.number + found.move.gap + declared_size found.statement ≤ 65536
  moved_room line found here e =
      let leads = moved_is line found e in
      room_by before.location found.statement found.move here leads.fits leads.within

  pub checked_within : (text : List ℕ) (found : Checked) → checked before text ≡ Ok found
      → is_in_part (location_after before.location found.move) ≡ true
  checked_within text found e =
      let a = bound (parsed before text) _ found e in
      (moved_is a.0 found a.2).within

  pub checked_titled : (text : List ℕ) (found : Checked) → checked before text ≡ Ok found → IsTitled found.statement
  checked_titled text found e =
      let a = bound (parsed before text) _ found e in
      (moved_is a.0 found a.2).titled

  pub checked_few : (text : List ℕ) (found : Checked) → checked before text ≡ Ok found → lists_too_many before found.statement ≡ false
  checked_few text found e =
      let a = bound (parsed before text) _ found e in
      (moved_is a.0 found a.2).few
