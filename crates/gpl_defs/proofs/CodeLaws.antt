-- Laws of the table of codes: each code byte of an operation's row is that operation's, and says the bits of its form.
use Rattle.std.proofs.Common.{◌≡◌, ℕ, ◌+◌, ◌-◌, ◌*◌, ◌/◌, ◌%◌, ◌<◌, ◌≤◌, Bool, true, false, ◌&&◌, ◌||◌, not, cond, refl, sym, ap, ◌∙◌, arith, List, [], ◌∷◌}
use Rattle.std.proofs.Common.{Option, Some, None}
use Rattle.std.specs.Prelude.{◌==◌, is_some, nat_le, nat_lt, find}
use Rattle.std.specs.List.{list_all}
use Rattle.std.specs.Cmp.{first_so, second_so}
use Rattle.std.proofs.lemmas.Bool.{agree_below, agree_below_at}
use Rattle.std.proofs.lemmas.Bool.Decides.{nat_tests}
use Rattle.gpl_defs.specs.declared.instruction.PlainOp.TheVariants.{RTN}
use Rattle.gpl_defs.specs.declared.instruction.ByteOp.TheVariants.{RAND}
use Rattle.gpl_defs.specs.declared.instruction.GoOp.TheVariants.{B}
use Rattle.gpl_defs.specs.declared.instruction.OneName.TheVariants.{ABS}
use Rattle.gpl_defs.specs.declared.instruction.TwoName.TheVariants.{ADD}
use Rattle.gpl_defs.specs.declared.instruction.MoveKind.TheVariants.{GromToMemory}
use Rattle.gpl_defs.specs.declared.instruction.GplOperation.{GplOperation}
use Rattle.gpl_defs.specs.declared.instruction.GplOperation.TheVariants.{Plain, Byte, Jump, Branch, One, Two, Move}
use Rattle.gpl_defs.specs.Codes.{row_of, plain_row, byte_row, go_row, branch_row, one_row, two_row, move_row, operations, has_code, operation_at}
use Rattle.gpl_defs.specs.Valid.{has_words, has_immediate}

-- a row is found by its first code byte
own_row : (operation : GplOperation) → operation_at (row_of operation).code ≡ Some operation
own_row (Plain RTN) = refl
own_row (Byte RAND) = refl
own_row (Jump B) = refl
own_row (Branch false) = refl
own_row (One ABS) = refl
own_row (Two ADD) = refl
own_row (Move GromToMemory) = refl
own_row _ = refl

-- the row that is found passes a test that all rows pass
found_passes : (test is_found : GplOperation → Bool) (rows : List GplOperation) (operation : GplOperation) → list_all test rows ≡ true →
    find is_found rows ≡ Some operation → test operation ≡ true
found_passes test is_found [] operation all e = absurd (cc)
found_passes test is_found (row ∷ rows) operation all e =
    by (found_passes test is_found rows operation (second_so (test row) (list_all test rows) all)) (is_found row) e
  where
    by : (find is_found rows ≡ Some operation → test operation ≡ true) → (b : Bool) →
        cond b (Some row) (find is_found rows) ≡ Some operation → test operation ≡ true
    by rest true found =
        let same : row ≡ operation = cc in rw (← same) (first_so (test row) (list_all test rows) all)
    by rest false found = rest found

-- a test that each row passes is passed by each operation
pub each_operation : (test : GplOperation → Bool) → list_all test operations ≡ true → (operation : GplOperation) →
    test operation ≡ true
each_operation test all operation =
    found_passes test (λ row. has_code row (row_of operation).code) operations operation all (own_row operation)

-- the row whose first code byte it is
abbrev begins_at : ℕ → Option GplOperation → Bool
begins_at code None = false
begins_at code (Some operation) = (row_of operation).code == code

begins-own : (operation : GplOperation) (found : Option GplOperation) → begins_at (row_of operation).code found ≡ true →
    found ≡ Some operation
begins-own operation None e = absurd (cc)
begins-own operation (Some row) e =
    let same : (row_of row).code ≡ (row_of operation).code = grind (arith, nat_tests) in
    sym (own_row row) ∙ ap operation_at same ∙ own_row operation

abbrev finds_row : GplOperation → Bool
finds_row operation =
    agree_below (λ variant. begins_at (row_of operation).code (operation_at ((row_of operation).code + variant)))
    (λ variant. true) (row_of operation).count

-- each code byte of an operation's row is that operation's
pub found : (operation : GplOperation) (variant : ℕ) → variant < (row_of operation).count →
    operation_at ((row_of operation).code + variant) ≡ Some operation
found operation variant lt =
    begins-own operation _
    (agree_below_at (λ v. begins_at (row_of operation).code (operation_at ((row_of operation).code + v))) (λ v. true)
    (row_of operation).count variant (each_operation finds_row refl operation) lt)

-- The bits of a code byte of an operation: after the first of its row stands the one that they number, and an operation has
-- no form of words or of an immediate source that it should not have.
abbrev pub row_fits : Option GplOperation → ℕ → Bool
row_fits None code = true
row_fits (Some (Plain op)) code = (plain_row op).code == code
row_fits (Some (Byte op)) code = (byte_row op).code == code
row_fits (Some (Jump op)) code = (go_row op).code == code
row_fits (Some (Branch on)) code = (branch_row on).code + code % 32 == code
row_fits (Some (One op)) code =
    ((one_row op).code + code % 2 == code) && (has_words op || not (code % 2 == 1))
row_fits (Some (Two op)) code =
    ((two_row op).code + (code / 2 % 2 * 2 + code % 2) == code) && (has_immediate op || not (code / 2 % 2 == 1))
row_fits (Some (Move kind)) code = (move_row kind).code + code % 2 == code

pub rows_fit : (code : ℕ) → code < 256 → row_fits (operation_at code) code ≡ true
rows_fit code lt = agree_below_at (λ c. row_fits (operation_at c) c) (λ c. true) 256 code refl lt

-- the code bytes that belong to a row
abbrev pub is_kept : ℕ → Bool
is_kept code =
    (nat_lt code 0x0E && not ((code == 3) || (code == 8)))
    || (nat_le 0x30 code && nat_lt code 0x36)
    || (nat_le 0x38 code && nat_lt code 0x3A)
    || (nat_le 0x40 code && nat_lt code 0x98 && not ((code == 0x89) || (code == 0x8D)))
    || (nat_le 0xA0 code && nat_lt code 0xEC && not ((code == 0xC2) || (code == 0xC3)))

none_of : (found : Option GplOperation) → is_some found ≡ false → found ≡ None
none_of None e = refl
none_of (Some operation) e = absurd (cc)

pub refused : (code : ℕ) → code < 256 → is_kept code ≡ false → operation_at code ≡ None
refused code lt e =
    let same : is_some (operation_at code) ≡ is_kept code =
    agree_below_at (λ c. is_some (operation_at c)) is_kept 256 code refl lt in
    none_of (operation_at code) (cc)

-- the operation of a code byte that lies in its row
pub found_at : (operation : GplOperation) (code : ℕ) → (row_of operation).code ≤ code →
    code < (row_of operation).code + (row_of operation).count → operation_at code ≡ Some operation
found_at operation code from below =
    let variant : code - (row_of operation).code < (row_of operation).count = omega arith in
    let there : (row_of operation).code + (code - (row_of operation).code) ≡ code = omega arith in
    rw there at (found operation (code - (row_of operation).code) variant)

-- a row has a code byte, and its code bytes are bytes
abbrev fits_bytes : GplOperation → Bool
fits_bytes operation = nat_lt 0 (row_of operation).count && nat_le ((row_of operation).code + (row_of operation).count) 256

pub row_begins : (operation : GplOperation) → 0 < (row_of operation).count
row_begins operation =
    let some = first_so (nat_lt 0 (row_of operation).count) _ (each_operation fits_bytes refl operation) in
    grind (arith, nat_tests)

pub row_ends : (operation : GplOperation) → (row_of operation).code + (row_of operation).count ≤ 256
row_ends operation =
    let few = second_so (nat_lt 0 (row_of operation).count) _ (each_operation fits_bytes refl operation) in
    grind (arith, nat_tests)
