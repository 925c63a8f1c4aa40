-- Facts about the code bytes of rows, each by trying all 256.
use Rattle.std.proofs.Common.{ℕ, ◌&&◌, ◌+◌, ◌-◌, ◌/◌, ◌<◌, ◌≡◌, ◌≤◌, ap, Bool, eqb, false, if◌then◌else◌, nat_le, nat_lt, not, Option, refl, slice_index}
use Rattle.std.proofs.Common.{Some, true}
use Rattle.std.proofs.lemmas.Bool.{agree_below_at, and_parts, eqb-true, leb-true, ltb-true}
use Rattle.sim_rows.specs.Prelude.{even, GplOperation, INTERP, is_row, OneName, operation_at, row_entry, TwoName}
use Rattle.sim_rows.specs.Pieces.{first_row}
use Rattle.sim_view.specs.gpl_defs.declared.instruction.GplOperation.TheVariants as operation

pub if_true : (b c : Bool) → b ≡ true → (if b then c else true) ≡ true → c ≡ true
if_true b c e f = let g : (if true then c else true) ≡ true = rw e at f in g

-- ---- the second table

abbrev in_table : ℕ → Bool
in_table code = nat_le 0x80 code && nat_lt code 0xEC

abbrev rows_in_table : ℕ → Bool
rows_in_table code = if is_row (operation_at code) then in_table code else true

pub row_code : (code : ℕ) → code < 256 → is_row (operation_at code) ≡ true → (0x80 ≤ code) × (code < 0xEC)
row_code code h e =
    let a = if_true (is_row (operation_at code)) (in_table code) e (agree_below_at rows_in_table (λ _. true) 256 code refl h) in
    let b = and_parts (nat_le 0x80 code) (nat_lt code 0xEC) a in
    (leb-true 0x80 code b.0, ltb-true code 0xEC b.1)

abbrev leads : ℕ → Bool
leads code = eqb (even (slice_index INTERP (first_row + (code - 0x80) / 2))) (row_entry (operation_at code))

abbrev rows_lead : ℕ → Bool
rows_lead code = if is_row (operation_at code) then leads code else true

pub row_is : (code : ℕ) → code < 256 → is_row (operation_at code) ≡ true →
    even (slice_index INTERP (first_row + (code - 0x80) / 2)) ≡ row_entry (operation_at code)
row_is code h e =
    eqb-true (even (slice_index INTERP (first_row + (code - 0x80) / 2))) (row_entry (operation_at code))
    (if_true (is_row (operation_at code)) (leads code) e (agree_below_at rows_lead (λ _. true) 256 code refl h))

-- ---- one operand or two

abbrev is_one : Option GplOperation → Bool
is_one (Some (operation.One op)) = true
is_one _ = false

abbrev is_two : Option GplOperation → Bool
is_two (Some (operation.Two op)) = true
is_two _ = false

abbrev ones_below : ℕ → Bool
ones_below code = if is_one (operation_at code) then nat_lt code 0xA0 else true

abbrev twos_above : ℕ → Bool
twos_above code = if is_two (operation_at code) then not (nat_lt code 0xA0) else true

pub one_below : (code : ℕ) → code < 256 → (op : OneName) → operation_at code ≡ Some (operation.One op) → nat_lt code 0xA0 ≡ true
one_below code h op e = if_true (is_one (operation_at code)) (nat_lt code 0xA0) (ap is_one e) (agree_below_at ones_below (λ _. true) 256 code refl h)

pub two_above : (code : ℕ) → code < 256 → (op : TwoName) → operation_at code ≡ Some (operation.Two op) → not (nat_lt code 0xA0) ≡ true
two_above code h op e = if_true (is_two (operation_at code)) (not (nat_lt code 0xA0)) (ap is_two e) (agree_below_at twos_above (λ _. true) 256 code refl h)
