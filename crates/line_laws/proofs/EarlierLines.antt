-- The outcome of a line by itself is its outcome after others.
use Rattle.std.proofs.Common.{◌≡◌, ℕ, Bool, true, false, List, Some, None, Ok, Err, refl, ap, ◌∙◌}
use Rattle.std.specs.Prelude.{Option, Result}
use Rattle.std.specs.Ordering.{nat_cmp}
use Rattle.std.specs.Cmp.Lexicographic.{slice_cmp}
use Rattle.std.specs.FinMap.{empty, get-empty}
use Rattle.source_defs.specs.Refusals.{◌>>=◌, unless}
use Rattle.source_defs.specs.Fields.{Fields, fields}
use Rattle.expression_defs.specs.Symbols.{Names, look_up}
use Rattle.expression_defs.specs.Expression.{Value, absolute}
use Rattle.expression_defs.proofs.GrowingLaws.{expression_stays}
use Rattle.expression_defs.specs.declared.causes.ExprError.{ExprError}
use Rattle.asm_defs.specs.declared.causes.AsmCause.{AsmCause}
use Rattle.asm_defs.specs.declared.causes.AsmCause.TheVariants.{Overflow, BadDirective}
use Rattle.asm_defs.specs.declared.location.Location.{Location}
use Rattle.asm_defs.specs.Statements.{as_text, Aorg, Data, End, Equ, Instruction, Nothing, Statement, statement_in}
use Rattle.asm_defs.specs.Locations.{value_of}
use Rattle.asm_defs.specs.FirstChecks.{EarlierLines, ParsedLine, Checked, LocationChange, any_known, label_in, is_taken, refs_in}
use Rattle.asm_defs.specs.FirstChecks.{parsed, moved, move, as_expr}
use Rattle.asm_defs.specs.FirstChecks.{is_too_far, is_bad, value, non_external}
use Rattle.asm_defs.proofs.CheckLaws.{bound}
use Rattle.line_laws.specs.KnownLines.{nothing_before, is_plain_statement}

-- a line with a statement by the first checks: END too takes nothing of the lines before
abbrev pub is_free : Statement → Bool
is_free (End text) = true
is_free statement = is_plain_statement statement

module _ (known : Names) (at : Location) (reached : ℕ) where
  grows : (name : List ℕ) (found : Value) → look_up empty name ≡ Some found → look_up known name ≡ Some found
  grows name found e = let none : look_up empty name ≡ None = get-empty (slice_cmp nat_cmp) name in cc (e, none)

  value_same : (text : List ℕ) (found : Value) → value empty at text ≡ Ok found → value known at text ≡ Ok found
  value_same text found e = expression_stays (look_up empty) (look_up known) grows (value_of at) text (rw e refl) ∙ e

  by_value : {A : Type 0} (text : List ℕ) (make : Value → Result A ExprError) (found : A) → (value empty at text >>= make) ≡ Ok found
      → (value known at text >>= make) ≡ Ok found
  by_value text make found e =
      let a = bound (value empty at text) make found e in ap (λ answer. answer >>= make) (value_same text a.0 a.1) ∙ a.2

  by_absolute : (text : List ℕ) (make : ℕ → Result LocationChange ExprError) (found : LocationChange) → ((value empty at text >>= absolute) >>= make) ≡ Ok found
      → ((value known at text >>= absolute) >>= make) ≡ Ok found
  by_absolute text make found e =
      let a = bound (value empty at text >>= absolute) make found e in
      ap (λ answer. answer >>= make) (by_value text absolute a.0 a.1) ∙ a.2

  by_known : (text : List ℕ) (make : Value → Result LocationChange ExprError) (found : LocationChange) → ((value empty at text >>= non_external) >>= make) ≡ Ok found
      → ((value known at text >>= non_external) >>= make) ≡ Ok found
  by_known text make found e =
      let a = bound (value empty at text >>= non_external) make found e in
      ap (λ answer. answer >>= make) (by_value text non_external a.0 a.1) ∙ a.2

  move_same : (statement : Statement) (found : LocationChange) → is_free statement ≡ true → move empty at 0 statement ≡ Ok found
      → move known at reached statement ≡ Ok found
  move_same Nothing found free e = e
  move_same (Instruction size operation field) found free e = e
  move_same (Aorg text) found free e = by_absolute text _ found e
  move_same (Equ text) found free e = by_known text _ found e
  move_same (Data texts) found free e = e
  move_same (End text) found free e = e
  move_same _ found free e = cc free

  module _ (defs refs : List (List ℕ)) where
    abbrev there : EarlierLines
    there = record { names = known; location = at; reached = reached; defs = defs; refs = refs }

    -- what is asked once it is known where a line leads
    abbrev lets : EarlierLines → ParsedLine → LocationChange → Result Checked AsmCause
    lets before line move =
        unless (is_too_far before line.statement move) Overflow move >>= λ move.
        unless (is_bad before line.label line.statement) BadDirective (record { label = line.label; statement = line.statement; move = move })

    lets_same : (label : Option (List ℕ)) (statement : Statement) (move : LocationChange) → is_free statement ≡ true
        → lets there (record { label = label; statement = statement }) move ≡ lets (nothing_before at) (record { label = label; statement = statement }) move
    lets_same None Nothing move free = refl
    lets_same _ Nothing move free = refl
    lets_same _ (Instruction size operation field) move free = refl
    lets_same _ (Aorg text) move free = refl
    lets_same _ (Equ text) move free = refl
    lets_same _ (Data texts) move free = refl
    lets_same _ (End text) move free = refl
    lets_same label _ move free = cc free

    as_expr_same : (line : ParsedLine) (found : LocationChange) → is_free line.statement ≡ true → as_expr (move empty at 0 line.statement) ≡ Ok found
        → as_expr (move known at reached line.statement) ≡ Ok found
    as_expr_same line found free e = by (move empty at 0 line.statement) refl e
      where
        by : (answer : Result LocationChange ExprError) → move empty at 0 line.statement ≡ answer → as_expr answer ≡ Ok found
            → as_expr (move known at reached line.statement) ≡ Ok found
        by (Ok first) is e = ap as_expr (move_same line.statement first free is) ∙ e
        by (Err cause) is e = cc e

    pub moved_same : (line : ParsedLine) (found : Checked) → is_free line.statement ≡ true → moved (nothing_before at) line ≡ Ok found
        → moved there line ≡ Ok found
    unfolding moved
    moved_same line found free e =
        let a = bound (as_expr (move empty at 0 line.statement)) (lets (nothing_before at) line) found e in
        ap (λ answer. answer >>= lets there line) (as_expr_same line a.0 free a.1)
        ∙ (lets_same line.label line.statement a.0 free ∙ a.2)

    free_refs : (label : Option (List ℕ)) (statement : Statement) → is_free statement ≡ true → is_taken known label (refs_in statement) ≡ false
    free_refs label Nothing free = refl
    free_refs label (Instruction size operation field) free = refl
    free_refs label (Aorg text) free = refl
    free_refs label (Equ text) free = refl
    free_refs label (Data texts) free = refl
    free_refs label (End text) free = refl
    free_refs label _ free = cc free

    pub same_statement : (text : List ℕ) (there_fields : Fields) (statement : Statement) → as_text (fields text) ≡ Ok there_fields
        → statement_in text there_fields ≡ Ok statement → is_free statement ≡ true → any_known known (label_in there_fields.label) ≡ false
        → parsed there text ≡ Ok (record { label = there_fields.label; statement = statement })
    unfolding parsed
    same_statement text found statement is parses free new = rw (is, new, parses, free_refs found.label statement free) refl
