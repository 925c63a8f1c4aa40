-- A line by the first checks, whose label is new or stands for something already.
use Rattle.std.proofs.Common.{◌≡◌, ℕ, ◌+◌, ◌≤◌, Bool, true, false, List, Ok, Err, refl, sym, ap, subst, ◌∙◌}
use Rattle.std.specs.Prelude.{Option, Result}
use Rattle.source_defs.specs.Refusals.{◌>>=◌, unless}
use Rattle.source_defs.specs.Fields.{Fields, fields}
use Rattle.source_defs.specs.declared.causes.TextError.{TextError}
use Rattle.asm_defs.specs.declared.causes.AsmCause.{AsmCause}
use Rattle.asm_defs.specs.declared.causes.AsmCause.TheVariants.{DuplicateLabel, BadDirective, Overflow}
use Rattle.asm_defs.specs.Statements.{parse_line, statement_in, as_text}
use Rattle.asm_defs.specs.Locations.{is_in_part}
use Rattle.asm_defs.specs.Growing.{declared_size}
use Rattle.asm_defs.specs.FirstChecks as spec
use Rattle.asm_defs.proofs.CheckLaws.{bound, moved_room}
use Rattle.asm_checks.specs.Answers.{Fails}
use Rattle.asm_checks.specs.Checks.{parsed_as_new, checked_as_new}
use Rattle.asm_checks.specs.declared.failure.Failure.{Failure}
use Rattle.asm_checks.specs.declared.failure.Failure.TheVariants.{Refused}

accepted : {A : Type 0} (b : Bool) (cause : AsmCause) (value found : A) → unless b cause value ≡ Ok found → value ≡ found
accepted true cause value found e = cc e
accepted false cause value found e = cc e

as_read : {A : Type 0} (answer : Result A TextError) (found : A) → as_text answer ≡ Ok found → answer ≡ Ok found
as_read (Ok value) found e = cc e
as_read (Err error) found e = cc e

abbrev parsed_in : spec.Checked → spec.ParsedLine
parsed_in checked = record { label = checked.label; statement = checked.statement }

module _ (before : spec.EarlierLines) (text : List ℕ) where
  abbrev pub knows : Option (List ℕ) → Bool
  knows label = spec.any_known before.names (spec.label_in label)

  module _ (found : Fields) (read : fields text ≡ Ok found) where
    -- a label that stands for something already
    label_is_known : knows found.label ≡ true → spec.parsed before text ≡ Err DuplicateLabel
    unfolding spec.parsed
    label_is_known is = rw (read, is) refl

    -- and one that is new
    label_is_new : knows found.label ≡ false → spec.parsed before text ≡ parsed_as_new before text
    unfolding spec.parsed parsed_as_new
    label_is_new is = rw (read, is) refl

    pub fails_known : knows found.label ≡ true → Fails (Refused DuplicateLabel) (spec.checked before text)
    fails_known is = ap (λ answer. answer >>= spec.moved before) (label_is_known is)

    pub fails_new : (failure : Failure) → knows found.label ≡ false → Fails failure (checked_as_new before text) → Fails failure (spec.checked before text)
    fails_new failure is fails = subst (Fails failure) (sym (ap (λ answer. answer >>= spec.moved before) (label_is_new is))) fails

  -- a line without fields is refused for them
  unread : (error : TextError) → fields text ≡ Err error → checked_as_new before text ≡ spec.checked before text
  unfolding spec.parsed parsed_as_new
  unread error read = rw read refl

  pub fails_unread : (failure : Failure) (error : TextError) → fields text ≡ Err error → Fails failure (checked_as_new before text)
      → Fails failure (spec.checked before text)
  fails_unread failure error read fails = subst (Fails failure) (unread error read) fails

  -- by the fields of the line
  record Reads (line : spec.ParsedLine) : Type 0 where
    found : Fields
    read : fields text ≡ Ok found
    parses : parse_line text ≡ Ok line.statement
    label : found.label ≡ line.label

  reads : (line : spec.ParsedLine) → parsed_as_new before text ≡ Ok line → Reads line
  unfolding parsed_as_new
  reads line e =
      let a = bound (as_text (fields text)) _ line e in
      let b = bound (statement_in text a.0) _ line a.2 in
      let c = accepted (spec.is_taken before.names a.0.label (spec.refs_in b.0)) DuplicateLabel (record { label = a.0.label; statement = b.0 }) line b.2 in
      let read = as_read (fields text) a.0 a.1 in
      record {
        found = a.0;
        read = read;
        parses = ap (λ answer. as_text answer >>= statement_in text) read ∙ (b.1 ∙ ap (λ (parsed : spec.ParsedLine). Ok parsed.statement) c);
        label = ap (λ (parsed : spec.ParsedLine). parsed.label) c;
      }

  -- where a line leads is with what it says
  module _ (line : spec.ParsedLine) (found : spec.Checked) where
    keeps : spec.moved before line ≡ Ok found → line ≡ parsed_in found
    unfolding spec.moved
    keeps e =
        let a = bound (spec.as_expr (spec.move before.names before.location before.reached line.statement)) _ found e in
        let b = bound (unless (spec.is_too_far before line.statement a.0) Overflow a.0) _ found a.2 in
        let c = accepted (spec.is_bad before line.label line.statement) BadDirective (record {
          label = line.label;
          statement = line.statement;
          move =
              b.0;
        }) found b.2 in
        ap parsed_in c

  -- what the first checks accept but for its label
  module _ (found : spec.Checked) (is : checked_as_new before text ≡ Ok found) where
    line : (line : spec.ParsedLine) × (parsed_as_new before text ≡ Ok line) × (spec.moved before line ≡ Ok found)
    line = bound (parsed_as_new before text) (spec.moved before) found is

    kept : line.0 ≡ parsed_in found
    kept = keeps line.0 found line.2

    pub parses : parse_line text ≡ Ok found.statement
    parses = (reads line.0 line.1).parses ∙ ap (λ (parsed : spec.ParsedLine). Ok parsed.statement) kept

    pub has_room : is_in_part before.location ≡ true → before.location.number + found.move.gap + declared_size found.statement ≤ 65536
    has_room here = moved_room before line.0 found here line.2

    label_is : knows (reads line.0 line.1).found.label ≡ knows found.label
    label_is = ap knows ((reads line.0 line.1).label ∙ ap (λ (parsed : spec.ParsedLine). parsed.label) kept)

    pub checked_new : knows found.label ≡ false → spec.checked before text ≡ Ok found
    checked_new new =
        let read = reads line.0 line.1 in
        ap (λ answer. answer >>= spec.moved before) (label_is_new read.found read.read (label_is ∙ new)) ∙ is

    pub checked_known : knows found.label ≡ true → spec.checked before text ≡ Err DuplicateLabel
    checked_known known =
        let read = reads line.0 line.1 in
        ap (λ answer. answer >>= spec.moved before) (label_is_known read.found read.read (label_is ∙ known))
