-- The result of a row, made from its operands.
use Rattle.std.proofs.Common.{ℕ, ◌<◌, ◌∙◌, ◌≡◌, ◌≤◌, ◌⊎◌, ap, arith, Bool, Err, false, inl, inr, nat_lt, not, Ok, refl, Result, slice_index, Some, sym, true}
use Rattle.sim_rows.proofs.Common.{◌>>=◌, absolute_flags, absolute_of, AtRow, Byte, bytes_by, changed_again, Changes, code_byte, complement_of, conjunction_of}
use Rattle.sim_rows.proofs.Common.{destination_bytes, difference_flags, difference_of, exclusive_or_of, Exit, exit, first_of, Flags, gone_on, GplOperation}
use Rattle.sim_rows.proofs.Common.{GplState, GromState, has_source, in_register, IsView, join, modulus, negation_flags, negation_of, of_register, one_below}
use Rattle.sim_rows.proofs.Common.{OneName, ones_cleared, ones_set, operands_of, operation_in, Place, reads_destination, Reason, row_changed, row_result}
use Rattle.sim_rows.proofs.Common.{row_width, second_by, size_of, Source, STATB, status_byte, STO, STORE, Storing, sum_flags, sum_of, unchanged, unit, value_at}
use Rattle.sim_rows.proofs.Common.{View, Width, width_again, width_in, with_status, with_value, Word}
use Rattle.sim_rows.specs.gpl_defs.declared.instruction.OneName.TheVariants as one
use Rattle.sim_rows.specs.gpl_defs.declared.instruction.TwoName.TheVariants as two
use Rattle.sim_rows.specs.gpl_defs.declared.instruction.GplOperation.TheVariants as operation
use Rattle.sim_alu.specs.Pieces.{kept_status}
use Rattle.sim_alu.specs.Family.{is_alu, result_piece}
use Rattle.sim_alu.proofs.Numbers

-- ---- widths and values

-- a word that has a number in a register
fits : (w : Width) (number word : ℕ) → word < 65536 → word ≡ in_register w number → number < modulus w
fits Byte number word h e = omega arith
fits Word number word h e = omega arith

one_fits : (w : Width) (n : ℕ) → n < 3 → n < modulus w
one_fits Byte n h = omega arith
one_fits Word n h = omega arith

-- ---- the source of one operand is 1

abbrev source_in : Result (Place × Source) Reason → Source
source_in (Ok operands) = operands.1
source_in (Err reason) = unit

abbrev paired : Place → Source → Result (Place × Source) Reason
paired p q = Ok (p, q)

unit_by : (r : Result Place Reason) (place : Place) (source : Source) → (r >>= λ p. Ok unit >>= paired p) ≡ Ok (place, source) → unit ≡ source
unit_by (Ok p) place source e = ap source_in e
unit_by (Err reason) place source e = absurd (cc)

none_there : (b : Bool) → b ≡ true → not b ≡ false
none_there true e = refl
none_there false e = absurd (cc)

unit_is : (s : GplState) (place : Place) (source : Source) (op : OneName) → code_byte s < 256 → operation_in s ≡ Some (operation.One op) →
    operands_of s ≡ Ok (place, source) → source.number ≡ 1
unit_is s place source op byte o e =
    let none : has_source s ≡ false = none_there (nat_lt (code_byte s) 0xA0) (one_below (code_byte s) byte op o) in
    let by : Bool → Result (Place × Source) Reason = λ b. first_of s >>= λ p. second_by b s >>= paired p in
    sym (ap (λ (u : Source). u.number) (unit_by (first_of s) place source (sym (ap by none) ∙ e)))

-- ---- what is to be stored

-- The result alone, by STO.
pub record Plain (op : GplOperation) (s : GplState) (place : Place) (source : Source) (e : Exit) : Type 0 where
  pub number : ℕ
  pub to : e.to ≡ STO
  pub within : e.count ≤ 3
  pub storing : Storing (unchanged (gone_on s)) (row_width s) place number e.left
  pub is : row_result op s place source ≡ Ok (with_value (row_width s) place number (unchanged (gone_on s)))

-- The result and the status, which register 12 keeps.
pub record Flagged (op : GplOperation) (s : GplState) (place : Place) (source : Source) (e : Exit) : Type 0 where
  pub number : ℕ
  pub status : ℕ
  pub to : e.to ≡ STORE
  pub within : e.count ≤ 6
  pub storing : Storing (unchanged (gone_on s)) (row_width s) place number e.left
  pub link : e.left.r.r11 ≡ STATB
  pub keeps : e.left.r.r12 ≡ join status 0
  pub is : row_result op s place source ≡ Ok (with_status status (with_value (row_width s) place number (unchanged (gone_on s))))

module _ (v : View) (i : IsView v) (s : GplState) (place : Place) (source : Source) (a : AtRow s place source v) where
  abbrev w : Width
  w = row_width s

  abbrev x : ℕ
  x = value_at s w place

  abbrev y : ℕ
  y = source.number

  abbrev c : Changes
  c = unchanged (gone_on s)

  -- the destination's value is read, and takes the bytes of one
  abbrev IsSingle : Type 0
  IsSingle = (destination_bytes s ≡ size_of w) × (reads_destination (operation_in s) ≡ true)

  single : (op : GplOperation) → operation_in s ≡ Some op → bytes_by (Some op) w ≡ size_of w → reads_destination (Some op) ≡ true → IsSingle
  single op o e r = (ap (λ q. bytes_by q w) o ∙ e, ap reads_destination o ∙ r)

  destination_is : IsSingle → v.r.r9 ≡ in_register w x
  destination_is e =
      let at : Width → ℕ = λ u. in_register u (value_at s u place) in
      a.destination e.1 ∙ ap (λ n. at (width_in n)) e.0 ∙ ap at (width_again w)

  x_fits : IsSingle → x < modulus w
  x_fits e = fits w x v.r.r9 (i.r 9) (destination_is e)

  y_fits : y < modulus w
  y_fits = fits w y v.r.r6 (i.r 6) a.value

  byte : code_byte s < 256
  byte =
      let same = ap (λ (g : GromState). slice_index g.image s.pc) a.holds.sees.grom in
      let h = i.grom.image.fits s.pc in
      omega arith

  -- a test of the two registers is one of the two values
  both : (f : ℕ → ℕ → ℕ) → IsSingle → f v.r.r9 v.r.r6 ≡ f (in_register w x) (in_register w y)
  both f e = ap (λ p. f p v.r.r6) (destination_is e) ∙ ap (f (in_register w x)) a.value

  first : (f : ℕ → ℕ) → IsSingle → f v.r.r9 ≡ f (in_register w x)
  first f e = ap f (destination_is e)

  -- the views at STO and at STORE
  abbrev left_with : ℕ → ℕ → ℕ → ℕ → View
  left_with r6 r9 r11 r12 = record v { r = record v.r { r6 = r6; r9 = r9; r11 = r11; r12 = r12 } }

  abbrev with_result : ℕ → ℕ → View
  with_result r6 r9 = left_with r6 r9 v.r.r11 v.r.r12

  abbrev with_kept : ℕ → ℕ → Flags → View
  with_kept r6 r9 flags = left_with r6 r9 STATB (kept_status flags)

  storing : (r6 r9 r11 r12 number : ℕ) → of_register w r9 ≡ number → Storing c w place number (left_with r6 r9 r11 r12)
  storing r6 r9 r11 r12 number e =
      record {
        changed = changed_again c v (left_with r6 r9 r11 r12) (row_changed s place source v a) refl refl refl refl;
        bytes_are = a.holds.bytes_are;
        to_place = record { address = a.to_place.address; space = a.to_place.space };
        value = e;
      }

  -- a record for each kind of end
  -- how many instructions the piece of an operation has
  abbrev count_in : GplOperation → ℕ
  count_in op = (result_piece op v).count

  plain : (op : GplOperation) (r6 r9 number : ℕ) → count_in op ≤ 3 → of_register w r9 ≡ number →
      row_result op s place source ≡ Ok (with_value w place number c) →
      Plain op s place source (exit (count_in op) STO (with_result r6 r9))
  plain op r6 r9 number le e is = record { number = number; to = refl; within = le; storing = storing r6 r9 _ _ number e; is = is }

  flagged : (op : GplOperation) (r6 r9 number status : ℕ) (flags : Flags) → count_in op ≤ 6 → of_register w r9 ≡ number → status_byte flags ≡ status →
      row_result op s place source ≡ Ok (with_status status (with_value w place number c)) →
      Flagged op s place source (exit (count_in op) STORE (with_kept r6 r9 flags))
  flagged op r6 r9 number status flags le e f is = record {
    number = number;
    status = status;
    to = refl;
    within = le;
    storing = storing r6 r9 _ _ number e;
    link = refl;
    keeps = ap (λ n. join n 0) f;
    is = is;
  }

  -- sums and differences of the destination with a number in register 6
  adds : (op : GplOperation) (r6 n : ℕ) → count_in op ≤ 6 → IsSingle → n < modulus w → r6 ≡ in_register w n →
      row_result op s place source ≡ Ok (with_status (status_byte (sum_flags w x n)) (with_value w place (sum_of w x n) c)) →
      Flagged op s place source (exit (count_in op) STORE (with_kept r6 (sum_of Word v.r.r9 r6) (sum_flags Word v.r.r9 r6)))
  adds op r6 n le e h is =
      let f = x_fits e in
      λ result.
      flagged op r6 (sum_of Word v.r.r9 r6) (sum_of w x n) (status_byte (sum_flags w x n)) (sum_flags Word v.r.r9 r6) le
      (ap (λ p. of_register w (sum_of Word p r6)) (destination_is e) ∙ ap (λ q. of_register w (sum_of Word (in_register w x) q)) is ∙ Numbers.sum_is w x n f h)
      (ap (λ p. status_byte (sum_flags Word p r6)) (destination_is e) ∙ ap (λ q. status_byte (sum_flags Word (in_register w x) q)) is
      ∙ Numbers.sum_status w x n f h)
      result

  subtracts : (op : GplOperation) (r6 n : ℕ) → count_in op ≤ 6 → IsSingle → n < modulus w → r6 ≡ in_register w n →
      row_result op s place source ≡ Ok (with_status (status_byte (difference_flags w x n)) (with_value w place (difference_of w x n) c)) →
      Flagged op s place source (exit (count_in op) STORE (with_kept r6 (difference_of Word v.r.r9 r6) (difference_flags Word v.r.r9 r6)))
  subtracts op r6 n le e h is =
      let f = x_fits e in
      λ result.
      flagged op r6 (difference_of Word v.r.r9 r6) (difference_of w x n) (status_byte (difference_flags w x n)) (difference_flags Word v.r.r9 r6) le
      (ap (λ p. of_register w (difference_of Word p r6)) (destination_is e) ∙ ap (λ q. of_register w (difference_of Word (in_register w x) q)) is
      ∙ Numbers.difference_is w x n f h)
      (ap (λ p. status_byte (difference_flags Word p r6)) (destination_is e) ∙ ap (λ q. status_byte (difference_flags Word (in_register w x) q)) is
      ∙ Numbers.difference_status w x n f h)
      result

  -- INC and DEC have 1 in register 6, and INCT and DECT double it
  unit_in : (op : OneName) → operation_in s ≡ Some (operation.One op) → operands_of s ≡ Ok (place, source) → v.r.r6 ≡ in_register w 1
  unit_in op o e = a.value ∙ ap (in_register w) (unit_is s place source op byte o e)

  twice_in : (op : OneName) → operation_in s ≡ Some (operation.One op) → operands_of s ≡ Ok (place, source) → sum_of Word v.r.r6 v.r.r6 ≡ in_register w 2
  twice_in op o e =
      let is = unit_in op o e in
      ap (λ n. sum_of Word n v.r.r6) is ∙ ap (sum_of Word (in_register w 1)) is ∙ Numbers.twice_one w

  -- ---- the operations

  abbrev Made : GplOperation → Type 0
  Made op = Plain op s place source (result_piece op v) ⊎ Flagged op s place source (result_piece op v)

  pub made : (op : GplOperation) → is_alu (Some op) ≡ true → operation_in s ≡ Some op → operands_of s ≡ Ok (place, source) → Made op
  made (operation.One one.ABS) f o e =
      let b = single (operation.One one.ABS) o refl refl in
      inr (flagged (operation.One one.ABS) v.r.r6 (absolute_of Word v.r.r9) (absolute_of w x) (status_byte (absolute_flags w x))
      (absolute_flags Word v.r.r9) (omega arith)
      (first (λ p. of_register w (absolute_of Word p)) b ∙ Numbers.absolute_is w x (x_fits b))
      (first (λ p. status_byte (absolute_flags Word p)) b ∙ Numbers.absolute_status w x (x_fits b)) refl)
  made (operation.One one.NEG) f o e =
      let b = single (operation.One one.NEG) o refl refl in
      inr (flagged (operation.One one.NEG) v.r.r6 (negation_of Word v.r.r9) (negation_of w x) (status_byte (negation_flags w x))
      (negation_flags Word v.r.r9) (omega arith)
      (first (λ p. of_register w (negation_of Word p)) b ∙ Numbers.negation_is w x (x_fits b))
      (first (λ p. status_byte (negation_flags Word p)) b ∙ Numbers.negation_status w x (x_fits b)) refl)
  made (operation.One one.INV) f o e =
      let b = single (operation.One one.INV) o refl refl in
      inl (plain (operation.One one.INV) v.r.r6 (complement_of Word v.r.r9) (complement_of w x) (omega arith)
      (first (λ p. of_register w (complement_of Word p)) b ∙ Numbers.complement_is w x (x_fits b)) refl)
  made (operation.One one.CLR) f o e = inl (plain (operation.One one.CLR) v.r.r6 0 0 (omega arith) (Numbers.zero_is (row_width s)) refl)
  made (operation.One one.INC) f o e =
      inr (adds (operation.One one.INC) v.r.r6 1 (omega arith) (single (operation.One one.INC) o refl refl) (one_fits w 1 (omega arith))
      (unit_in one.INC o e) refl)
  made (operation.One one.DEC) f o e = inr (subtracts (operation.One one.DEC) v.r.r6 1 (omega arith) (single (operation.One one.DEC) o refl refl)
      (one_fits w 1 (omega arith)) (unit_in one.DEC o e) refl)
  made (operation.One one.INCT) f o e =
      inr (adds (operation.One one.INCT) (sum_of Word v.r.r6 v.r.r6) 2 (omega arith) (single (operation.One one.INCT) o refl refl) (one_fits w 2 (omega arith))
      (twice_in one.INCT o e) refl)
  made (operation.One one.DECT) f o e =
      inr (subtracts (operation.One one.DECT) (sum_of Word v.r.r6 v.r.r6) 2 (omega arith) (single (operation.One one.DECT) o refl refl)
      (one_fits w 2 (omega arith)) (twice_in one.DECT o e) refl)
  made (operation.Two two.ADD) f o e =
      inr (adds (operation.Two two.ADD) v.r.r6 y (omega arith) (single (operation.Two two.ADD) o refl refl) y_fits a.value refl)
  made (operation.Two two.SUB) f o e =
      inr (subtracts (operation.Two two.SUB) v.r.r6 y (omega arith) (single (operation.Two two.SUB) o refl refl) y_fits a.value refl)
  made (operation.Two two.AND) f o e =
      let b = single (operation.Two two.AND) o refl refl in
      inl (plain (operation.Two two.AND) (complement_of Word v.r.r6) (ones_cleared Word v.r.r9 (complement_of Word v.r.r6)) (conjunction_of x y) (omega arith)
      (both (λ p q. of_register w (ones_cleared Word p (complement_of Word q))) b ∙ Numbers.common_is w x y (x_fits b) y_fits) refl)
  made (operation.Two two.OR) f o e =
      let b = single (operation.Two two.OR) o refl refl in
      inl (plain (operation.Two two.OR) v.r.r6 (ones_set v.r.r9 v.r.r6) (ones_set x y) (omega arith)
      (both (λ p q. of_register w (ones_set p q)) b ∙ Numbers.ones_are w x y (x_fits b) y_fits) refl)
  made (operation.Two two.XOR) f o e =
      let b = single (operation.Two two.XOR) o refl refl in
      inl (plain (operation.Two two.XOR) v.r.r6 (exclusive_or_of v.r.r9 v.r.r6) (exclusive_or_of x y) (omega arith)
      (both (λ p q. of_register w (exclusive_or_of p q)) b ∙ Numbers.exclusive_is w x y (x_fits b) y_fits) refl)
  made (operation.Two two.ST) f o e =
      inl (plain (operation.Two two.ST) v.r.r6 v.r.r6 y (omega arith) (ap (of_register w) a.value ∙ Numbers.source_is w y) refl)
  made _ f o e = absurd (cc)
