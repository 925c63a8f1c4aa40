-- What is known of a view at the row of MUL and DIV.
use Rattle.std.proofs.Common.{ℕ, ◌%◌, ◌*◌, ◌+◌, ◌<◌, ◌==◌, ◌∙◌, ◌≡◌, ◌≤◌, ap, arith, Bool, false, if◌then◌else◌, List}
use Rattle.std.proofs.Common.{Ok}
use Rattle.std.proofs.Common.{Option, refl, slice_index, Some, subst, sym, true}
use Rattle.sim_rows.proofs.Common.{AtRow, Byte, byte_in, bytes_by, Cpu, destination_bytes, destination_visible, DIV}
use Rattle.sim_rows.proofs.Common.{GplOperation, GplState, in_register, IsView, low, MUL, operands_of, operation_in}
use Rattle.sim_rows.proofs.Common.{Place}
use Rattle.sim_rows.proofs.Common.{reads_destination, row_width, size_of, Source, Space, Two, value_at, Vdp, View}
use Rattle.sim_rows.proofs.Common.{Width}
use Rattle.sim_rows.proofs.Common.{width_again, width_in, Word}
use Rattle.sim_rows.specs.sim_operands.Routines.{CanStore}
use Rattle.sim_rows.proofs.RowViews.{row_is, row_view}
use Rattle.sim_muldiv.specs.Family.{is_muldiv}
use Rattle.sim_muldiv.specs.Rows.{AreVisible, IsReady}

sized : (o : Option GplOperation) → is_muldiv o ≡ true → (width : Width) → bytes_by o width ≡ 2 * size_of width
sized (Some (Two MUL)) e width = refl
sized (Some (Two DIV)) e width = refl
sized _ e width = absurd (cc)

wide : (width : Width) → width_in (2 * size_of width) ≡ Word
wide Byte = refl
wide Word = refl

justified : (width : Width) (number : ℕ) → (size_of width == 1) ≡ true → low (in_register width number) ≡ 0
justified Byte number e = omega arith
justified Word number e = absurd (cc)

-- ---- what may be stored, where both values are visible

pub first_visible : (v : View) → AreVisible v → CanStore v
first_visible v h z = let a = h z in omega arith

pub second_visible : (v : View) → (v.r.r3 == 1) ≡ false → AreVisible v → v.r.r8 ≡ 0 →
    (v.r.r7 + 2) % 65536 + size_of (width_in v.r.r3) ≤ 194
second_visible v e h z =
    let a = h z in
    let size : size_of (width_in v.r.r3) ≡ 2 = ap (λ (b : Bool). size_of (if b then Byte else Word)) e in
    omega arith

some_bytes : (w : Width) → 1 ≤ size_of w
some_bytes Byte = omega arith
some_bytes Word = omega arith

pub word_visible : (v : View) → AreVisible v → v.r.r8 ≡ 0 → v.r.r7 + 2 ≤ 194
word_visible v h z = let a = h z in let size = some_bytes (width_in v.r.r3) in omega arith

-- a divisor of a byte above something is not 0
pub some_divisor : (v : View) → IsReady v → v.r.r9 < v.r.r6 → (v.r.r3 == 1) ≡ true → 256 ≤ v.r.r6
some_divisor v ready less byte = let none_below = ready.divisor byte in omega arith

-- ---- at a row

module _ (s : GplState) (place : Place) (source : Source) (v : View) (family : is_muldiv (operation_in s) ≡ true)
    (row : AtRow s place source v) where
  bytes : destination_bytes s ≡ 2 * size_of (row_width s)
  bytes = sized (operation_in s) family (row_width s)

  pub ready : operands_of s ≡ Ok (place, source) → IsReady v
  ready operands = record {
    visible = λ z.
        let lies = destination_visible s place source operands (sym row.to_place.space ∙ z) in
        let size : size_of (width_in v.r.r3) ≡ size_of (row_width s) =
        ap (λ (n : ℕ). size_of (width_in n)) row.holds.bytes_are
        ∙ ap size_of (width_again (row_width s)) in
        let b = bytes in
        let address = row.to_place.address in
        omega arith;
    divisor = λ b. ap low row.value ∙ justified (row_width s) source.number
        (ap (λ (n : ℕ). n == 1) (sym row.holds.bytes_are) ∙ b);
  }

  -- the destination's first word is loaded
  pub is_row_view : reads_destination (operation_in s) ≡ true →
      v ≡ row_view s place source.number (value_at s Word place) (row_width s) v
  is_row_view reads =
      row_is s place source v reads row
      ∙ ap (λ (w : Width). row_view s place source.number (in_register w (value_at s w place)) (row_width s) v)
      (ap width_in bytes ∙ wide (row_width s))

-- ---- bytes of a state that a view shows

byte_in_fits : (v : View) → IsView v → (s : GplState) → v.cells ≡ s.cells → v.vdp.memory ≡ s.vdp →
    (space : Space) (address : ℕ) → byte_in space s address < 256
byte_in_fits v i s c d Cpu address = subst (λ (l : List ℕ). slice_index l address < 256) c (i.cells address)
byte_in_fits v i s c d Vdp address =
    subst (λ (l : List ℕ). slice_index l (address % 16384) < 256) d (i.vdp.memory.fits (address % 16384))

pub byte_fits_at : (v : View) → IsView v → (s : GplState) → v.cells ≡ s.cells → v.vdp.memory ≡ s.vdp → (place : Place) →
    byte_in place.space s place.address < 256
byte_fits_at v i s c d place = byte_in_fits v i s c d place.space place.address
