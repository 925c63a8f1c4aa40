-- What the first checks accept.
use Rattle.std.proofs.Common.{◌≡◌, ℕ, ◌+◌, ◌%◌, ◌≤◌, Bool, true, false, List, Some, None, Ok, refl, ap, subst, ◌∙◌, arith}
use Rattle.std.specs.Prelude.{Option, IfSome, not, nat_lt, ◌==◌}
use Rattle.std.proofs.lemmas.Bool.Decides.{nat_tests}
use Rattle.source_defs.specs.Refusals.{◌>>=◌, unless}
use Rattle.source_defs.specs.Fields.{fields}
use Rattle.expression_defs.specs.Symbols.{Names, look_up}
use Rattle.expression_defs.specs.Layout.{set_or}
use Rattle.source_defs.proofs.RefusalLaws.{bound}
use Rattle.gpl_source_defs.specs.declared.causes.GplCause.{GplCause}
use Rattle.gpl_source_defs.specs.declared.causes.GplCause.TheVariants.{DuplicateLabel, GromFull, BadDirective}
use Rattle.gpl_source_defs.specs.declared.location.Location.{Location}
use Rattle.gpl_source_defs.specs.Statements.{Statement, Nothing, Grom, Aorg, Equ, Bss, End, statement_at, declared_size}
use Rattle.gpl_source_defs.specs.Locations.{address_of, origin_of, after, passes, IsInGrom}
use Rattle.gpl_source_defs.specs.FirstChecks.{Checked, as_text, checked, is_bad, is_full, is_taken, parsed}
use Rattle.base_defs.specs.declared.size.TheConstants.{GROM_SIZE}

accepted : {A : Type 0} (against : Bool) (cause : GplCause) (value found : A) → unless against cause value ≡ Ok found → (against ≡ false) × (value ≡ found)
accepted true cause value found e = cc e
accepted false cause value found e = (refl, cc e)

-- what is known of a line that was accepted
pub record IsAccepted (known : Names) (here : Location) (text : List ℕ) (found : Checked) : Type 0 where
  pub parsed : parsed known here text ≡ Ok found.statement
  pub fresh : is_taken known found.label ≡ false
  pub fits : is_full here found.statement ≡ false
  pub fine : is_bad found.label found.statement ≡ false

pub is_accepted : (known : Names) (here : Location) (text : List ℕ) (found : Checked) → checked known here text ≡ Ok found → IsAccepted known here text found
unfolding checked
is_accepted known here text found e =
    let a = bound (as_text (fields text)) _ found e in
    let b = bound (unless (is_taken known a.0.label) DuplicateLabel a.0.label) _ found a.2 in
    let b' = accepted (is_taken known a.0.label) DuplicateLabel a.0.label b.0 b.1 in
    let c = bound (statement_at (look_up known) (address_of here) text a.0.operation a.0.operands) _ found b.2 in
    let d = bound (unless (is_full here c.0) GromFull c.0) _ found c.2 in
    let d' = accepted (is_full here c.0) GromFull c.0 d.0 d.1 in
    let f = accepted (is_bad b.0 d.0) BadDirective (record { label = b.0; statement = d.0 }) found d.2 in
    let label : b.0 ≡ found.label = ap (λ (line : Checked). line.label) f.1 in
    let statement : c.0 ≡ found.statement = d'.1 ∙ ap (λ (line : Checked). line.statement) f.1 in
    record {
      parsed = ap (λ answer. answer >>= λ parts. statement_at (look_up known) (address_of here) text parts.operation parts.operands) a.1 ∙ (c.1 ∙ ap Ok statement);
      fresh = subst (λ label. is_taken known label ≡ false) (b'.1 ∙ label) b'.0;
      fits = subst (λ statement. is_full here statement ≡ false) statement d'.0;
      fine = subst (λ (line : Checked). is_bad line.label line.statement ≡ false) f.1 f.0;
    }

-- a line leads to a location of its GROM
fitting : (here : Location) (bytes : ℕ) → IsInGrom here → passes here bytes ≡ false → IsInGrom (after here bytes)
fitting here bytes is fits = record {
  aligned = is.aligned;
  address = is.address;
  from = omega (arith, is.from);
  within = grind (arith, nat_tests, fits);
}

at_start : (address : ℕ) → address ≤ 65535 → not (address % GROM_SIZE == 0) ≡ false → IsInGrom (after (record { grom = address; number = address }) 0)
at_start address le fine = record {
  aligned = grind (arith, nat_tests, fine);
  address = le;
  from = omega arith;
  within = omega arith;
}

at_offset : (here : Location) (offset : ℕ) → IsInGrom here → not (nat_lt offset GROM_SIZE) ≡ false
    → IsInGrom (after (record { grom = here.grom; number = here.grom + offset }) 0)
at_offset here offset is fine = record {
  aligned = is.aligned;
  address = is.address;
  from = omega arith;
  within = grind (arith, nat_tests, fine);
}

pub leads : (here : Location) (label : Option (List ℕ)) (statement : Statement) → IsInGrom here → IfSome (origin_of here statement) (λ origin. origin.grom ≤ 65535)
    → is_full here statement ≡ false → is_bad label statement ≡ false → IsInGrom (after (set_or (origin_of here statement) here) (declared_size statement))
leads here None (Grom address) is le fits fine = at_start address le fine
leads here (Some name) (Grom address) is le fits fine = at_start address le fine
leads here None (Aorg offset) is le fits fine = at_offset here offset is fine
leads here (Some name) (Aorg offset) is le fits fine = at_offset here offset is fine
leads here label Nothing is le fits fine = fitting here 0 is fits
leads here label (Equ number) is le fits fine = fitting here 0 is fits
leads here label (Bss number) is le fits fine = fitting here number is fits
leads here label (End text) is le fits fine = fitting here 0 is fits
leads here label _ is le fits fine = fitting here _ is fits

pub most_number : (here : Location) → IsInGrom here → here.number ≤ 65536
most_number here is = omega (arith, is.aligned, is.address, is.within)
