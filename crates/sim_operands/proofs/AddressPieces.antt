-- The pieces of ADDR find the place of an operand.
use Rattle.std.proofs.Common.{ℕ, ⊎_elim, ◌%◌, ◌*◌, ◌+◌, ◌/◌, ◌<◌, ◌==◌, ◌≡◌, ◌≤◌, ap, arith, Bool, eqb, Err, false, List}
use Rattle.std.proofs.Common.{nat_lt, not, Ok, refl, Result, slice_index, subst, sym, true}
use Rattle.std.proofs.lemmas.Nat.{and_mask}
use Rattle.std.proofs.lemmas.Bool.{cases_eq, eq-eqb, eqb-true, le-leb, le-ltb, lt-leb, ltb-false, ltb-true, ne_eqb}
use Rattle.sim_view.specs.Prelude.{is_set, space_of}
use Rattle.sim_view.specs.Prelude.{conjunction_of}
use Rattle.sim_view.proofs.Common.{APTR, ASPACE, Exit, Goes, goes_in, GSTOP, high, HoldsBytes, INDEX, index_at}
use Rattle.sim_view.proofs.Common.{indexed, is_visible, join, last_out, next_in_grom, operand_at, pick, pointed, ranged}
use Rattle.sim_view.proofs.Common.{Reason, shifted, SLA, SRL, sum_of, View, with_index, Word, word_in}
use Rattle.sim_view.specs.gpl_step_defs.declared.reason.Reason.TheVariants.{Cell}
use Rattle.sim_operands.proofs.Facts.{not_both}
use Rattle.sim_operands.specs.Subroutines.{Addressed, OperandStop, grom_at, Placed, state_of}
use Rattle.sim_operands.specs.Pieces as pieces
use Rattle.sim_view.specs.native_interp.declared.addresses.TheConstants.{ASHORT}

-- What holds of an answer of a definition: something of its value, or of a stop by the cells.
abbrev pub Answers : {X : Type 0} → Result X Reason → (X → Type 0) → Type 0 → Type 0
Answers (Ok x) Good Bad = Good x
Answers (Err reason) Good Bad = (reason ≡ Cell) × Bad

-- ---- the address

-- the low four bits of the first byte
base_is : (first : ℕ) → first < 256 → shifted SRL (shifted SLA first 12) 4 ≡ 256 * (first % 16)
base_is first h = omega arith

four_ones : (low_bits : ℕ) (is : Bool) → (low_bits == 15) ≡ is → (256 * low_bits == 0x0F00) ≡ is
four_ones low_bits true c = let e : low_bits ≡ 15 = eqb-true low_bits 15 c in rw e refl
four_ones low_bits false c =
    ne_eqb (256 * low_bits) 0x0F00 (λ e. let n : low_bits ≡ 15 = omega arith in absurd (not_both (low_bits == 15) (eq-eqb low_bits 15 n) c))

-- An address in one byte, which the first piece reads; it has no form.
pub record ShortRead (v : View) (at : ℕ) (e : Exit) : Type 0 where
  pub address : ℕ
  pub next : ℕ
  pub below : address < 0x80
  pub goes : Goes e 4 ASHORT (Addressed v address 0 next)
  pub means : operand_at v.grom.image at ≡ with_index 0 address (index_at 0 v.grom.image next)

-- A longer address, and the form of the operand.
pub record AddressRead (v : View) (at : ℕ) (e : Exit) : Type 0 where
  pub form : ℕ
  pub address : ℕ
  pub next : ℕ
  pub form_fits : form < 256
  pub goes : Goes e 10 APTR (Addressed v address form next)
  pub means : operand_at v.grom.image at ≡ with_index form address (index_at form v.grom.image next)

high_base : (first : ℕ) → high (256 * (first % 16)) ≡ first % 16
high_base first = omega arith

module _ (v : View) (at : ℕ) (ready : v.grom ≡ grom_at v.grom.image at) (bytes : HoldsBytes 65536 v.grom.image) where
  abbrev image : List ℕ
  image = v.grom.image

  abbrev first : ℕ
  first = slice_index image at

  short_form : nat_lt first 0x80 ≡ true → ShortRead v at (pieces.address v)
  unfolding operand_at
  short_form c =
      record {
        address = first;
        next = next_in_grom at;
        below = ltb-true first 0x80 c;
        goes = record {
          within = rw (ready, c, pieces.address) (omega arith);
          to_is = rw (ready, c, pieces.address) refl;
          holds = record { r4 = v.r.r4; r6 = v.r.r6; is = rw (ready, c, pieces.address) refl };
        };
        means = rw c refl;
      }

  long_form : nat_lt first 0x80 ≡ false → AddressRead v at (pieces.address v)
  unfolding operand_at
  long_form c =
      let fits = bytes.fits at in
      let n1 = next_in_grom at in
      let n2 = next_in_grom n1 in
      let base = base_is first fits in
      pick (first % 16 == 15)
      (λ d. record {
        form = first;
        address = join (slice_index image n1) (slice_index image n2);
        next = next_in_grom n2;
        form_fits = fits;
        goes = record {
          within = rw (ready, c, base, four_ones (first % 16) true d, pieces.address) (omega arith);
          to_is = rw (ready, c, base, four_ones (first % 16) true d, pieces.address) refl;
          holds = record { r4 = v.r.r4; r6 = v.r.r6; is = rw (ready, c, base, four_ones (first % 16) true d, pieces.address) refl };
        };
        means = rw (c, d) refl;
      })
      (λ d. record {
        form = first;
        address = join (first % 16) (slice_index image n1);
        next = n2;
        form_fits = fits;
        goes = record {
          within = rw (ready, c, base, four_ones (first % 16) false d, pieces.address) (omega arith);
          to_is = rw (ready, c, base, four_ones (first % 16) false d, pieces.address) refl;
          holds =
              record {
                r4 = v.r.r4;
                r6 = v.r.r6;
                is = rw (ready, c, base, four_ones (first % 16) false d, high_base first, pieces.address) refl;
              };
        };
        means = rw (c, d) refl;
      })

  to_short : nat_lt first 0x80 ≡ true → eqb (pieces.address v).to ASHORT ≡ true
  to_short c = ap (λ (n : ℕ). eqb n ASHORT) (short_form c).goes.to_is

  to_pointer : nat_lt first 0x80 ≡ false → eqb (pieces.address v).to ASHORT ≡ false
  to_pointer c = ap (λ (n : ℕ). eqb n ASHORT) (long_form c).goes.to_is

  -- the end of the first piece decides which
  pub short_read : eqb (pieces.address v).to ASHORT ≡ true → ShortRead v at (pieces.address v)
  short_read e = pick (nat_lt first 0x80) short_form (λ c. absurd (not_both (eqb (pieces.address v).to ASHORT) e (to_pointer c)))

  pub address_read : eqb (pieces.address v).to ASHORT ≡ false → AddressRead v at (pieces.address v)
  address_read e = pick (nat_lt first 0x80) (λ c. absurd (not_both (eqb (pieces.address v).to ASHORT) (to_short c) e)) long_form

-- ---- the pointer

indirect_bit : (form : ℕ) → form < 256 → last_out SRL form 5 ≡ (form / 16 % 2 == 1)
indirect_bit form h = let n : (65536 * 0 + form) / 16 % 2 ≡ form / 16 % 2 = omega arith in ap (λ (k : ℕ). eqb k 1) n

form_down : (form : ℕ) → form < 256 → shifted SRL form 5 ≡ form / 32
form_down form h = omega arith

-- a word of two cells is visible, or not
visible_word : (offset : ℕ) (far : Bool) → nat_lt 0xC0 offset ≡ far → is_visible 2 offset ≡ not far
visible_word offset true c = let l : 0xC0 < offset = ltb-true 0xC0 offset c in lt-leb (offset + 2) 0xC2 (omega arith)
visible_word offset false c = let l : offset ≤ 0xC0 = ltb-false 0xC0 offset c in le-leb (offset + 2) 0xC2 (omega arith)

-- The pointer's piece gives the word there, or stops.
abbrev pub PointerRead : View → View → ℕ → ℕ → ℕ → Exit → Type 0
PointerRead v w address form next e =
    Answers (pointed (state_of v) (form / 16 % 2 == 1) address)
    (λ base. Goes e 9 INDEX (Addressed v base (form / 32) next))
    (Goes e 7 GSTOP (OperandStop v Cell))

pub pointer_read : (v w : View) (address form next : ℕ) → form < 256 → Addressed v address form next w →
    PointerRead v w address form next (pieces.pointer w)
pointer_read v w address form next h a =
    subst (λ (u : View). PointerRead v u address form next (pieces.pointer u)) (sym a.is)
    (pick (form / 16 % 2 == 1)
    (λ c. pick (nat_lt 0xC0 address)
    (λ d. rw (indirect_bit form h, c, d, visible_word address true d, pieces.pointer)
    (refl, goes_in (omega arith) (record { r2 = address; r4 = a.r4; r5 = form / 32; r6 = a.r6; next = next; is = rw (form_down form h) refl })))
    (λ d. pick (address == 0x7C)
    (λ f. rw (indirect_bit form h, c, d, f, visible_word address false d, pieces.pointer)
    (refl, goes_in (omega arith) (record { r2 = address; r4 = a.r4; r5 = form / 32; r6 = a.r6; next = next; is = rw (form_down form h) refl })))
    (λ f. rw (indirect_bit form h, c, d, f, visible_word address false d, pieces.pointer)
    (goes_in (omega arith) (record { r4 = word_in v.cells address; r6 = a.r6; is = rw (form_down form h) refl })))))
    (λ c. rw (indirect_bit form h, c, pieces.pointer)
    (goes_in (omega arith) (record { r4 = a.r4; r6 = a.r6; is = rw (form_down form h) refl }))))

-- ---- the index

index_bit : (form : ℕ) → form < 256 → last_out SRL (form / 32) 2 ≡ (form / 64 % 2 == 1)
index_bit form h = let n : (65536 * 0 + form / 32) / 2 % 2 ≡ form / 64 % 2 = omega arith in ap (λ (k : ℕ). eqb k 1) n

-- The index's piece gives the sum with the word at the index byte, or stops.
abbrev pub IndexRead : View → View → ℕ → ℕ → ℕ → Exit → Type 0
IndexRead v w base form next e =
    let read = index_at form v.grom.image next in
    Answers (indexed (state_of v) read.0 base)
    (λ address. Goes e 10 ASPACE (Addressed v address (form / 32) read.1))
    (Goes e 8 GSTOP (OperandStop v Cell))

pub index_read : (v w : View) (base form next : ℕ) → form < 256 → Addressed v base (form / 32) next w →
    IndexRead v w base form next (pieces.index w)
index_read v w base form next h a =
    subst (λ (u : View). IndexRead v u base form next (pieces.index u)) (sym a.is)
    (pick (form / 64 % 2 == 1)
    (λ c. pick (nat_lt 0xC0 (slice_index v.grom.image next))
    (λ d. rw (index_bit form h, c, d, visible_word (slice_index v.grom.image next) true d, pieces.index)
    (refl, goes_in (omega arith) (record { r2 = base; r4 = slice_index v.grom.image next; r5 = form / 32; r6 = a.r6; next = next_in_grom next; is = refl })))
    (λ d. rw (index_bit form h, c, d, visible_word (slice_index v.grom.image next) false d, pieces.index)
    (goes_in (omega arith) (record { r4 = slice_index v.grom.image next; r6 = word_in v.cells (slice_index v.grom.image next); is = refl }))))
    (λ c. rw (index_bit form h, c, pieces.index)
    (goes_in (omega arith) (record { r4 = shifted SRL (form / 32) 2; r6 = a.r6; is = refl }))))

-- ---- the range

space_bit : (form : ℕ) → conjunction_of (form / 32) 1 ≡ form / 32 % 2
space_bit form = and_mask (form / 32) 1

visible_range : (bytes offset : ℕ) (far : Bool) → offset ≤ 0xC2 → bytes ≤ 16384 → nat_lt 0xC2 (sum_of Word bytes offset) ≡ far →
    is_visible bytes offset ≡ not far
visible_range bytes offset true h k c = let l : 0xC2 < (bytes + offset) % 65536 =
    ltb-true 0xC2 ((bytes + offset) % 65536) c in lt-leb (offset + bytes) 0xC2 (omega arith)
visible_range bytes offset false h k c = let l : (bytes + offset) % 65536 ≤ 0xC2 =
    ltb-false 0xC2 ((bytes + offset) % 65536) c in le-leb (offset + bytes) 0xC2 (omega arith)

no_range : (bytes offset : ℕ) → nat_lt 0xC2 offset ≡ true → is_visible bytes offset ≡ false
no_range bytes offset c = let l : 0xC2 < offset = ltb-true 0xC2 offset c in lt-leb (offset + bytes) 0xC2 (omega arith)

-- The range's piece gives the place, or stops.
abbrev pub RangeRead : View → View → ℕ → ℕ → ℕ → Exit → Type 0
RangeRead v w address form next e =
    Answers (ranged v.r.r3 (space_of (is_set form 0x20)) address)
    (λ place. Goes e 9 (pieces.return_of v) (Placed v next place))
    (Goes e 9 GSTOP (OperandStop v Cell))

two_spaces : (form : ℕ) → (form / 32 % 2 ≡ 0 → ⊥) → form / 32 % 2 ≡ 1
two_spaces form h = omega arith

pub range_read : (v w : View) (address form next : ℕ) → form < 256 → v.r.r3 ≤ 16384 → Addressed v address (form / 32) next w →
    RangeRead v w address form next (pieces.range w)
range_read v w address form next h k a =
    subst (λ (u : View). RangeRead v u address form next (pieces.range u)) (sym a.is)
    (⊎_elim
    (λ (z : form / 32 % 2 ≡ 0).
    pick (nat_lt 0xC2 address)
    (λ d. rw (space_bit form, z, d, no_range v.r.r3 address d, pieces.range)
    (refl, goes_in (omega arith) (record { r2 = address; r4 = a.r4; r5 = 0; r6 = a.r6; next = next; is = refl })))
    (λ d. pick (nat_lt 0xC2 (sum_of Word v.r.r3 address))
    (λ f. rw (space_bit form, z, d, f, visible_range v.r.r3 address true (ltb-false 0xC2 address d) k f, pieces.range)
    (refl, goes_in (omega arith) (record { r2 = address; r4 = sum_of Word v.r.r3 address; r5 = 0; r6 = a.r6; next = next; is = refl })))
    (λ f. rw (space_bit form, z, d, f, visible_range v.r.r3 address false (ltb-false 0xC2 address d) k f, pieces.range)
    (goes_in (omega arith) (record { r4 = sum_of Word v.r.r3 address; r6 = a.r6; is = refl })))))
    (λ (n : form / 32 % 2 ≡ 0 → ⊥).
    let one : form / 32 % 2 ≡ 1 = two_spaces form n in
    rw (space_bit form, one, pieces.range)
    (goes_in (omega arith) (record { r4 = a.r4; r6 = a.r6; is = refl })))
    (cases_eq (form / 32 % 2) 0))

-- ---- the range of an address in one byte

visible_short : (bytes offset : ℕ) → nat_lt 4 bytes ≡ false → offset < 0x80 → is_visible bytes offset ≡ true
visible_short bytes offset c h = let l : bytes ≤ 4 = ltb-false 4 bytes c in le-leb (offset + bytes) 0xC2 (omega arith)

near_cell : (offset : ℕ) → offset < 0x80 → nat_lt 0xC2 offset ≡ false
near_cell offset h = le-ltb 0xC2 offset (omega arith)

pub short_range_read : (v w : View) (address next : ℕ) → address < 0x80 → v.r.r3 ≤ 16384 → Addressed v address 0 next w →
    RangeRead v w address 0 next (pieces.short_range w)
short_range_read v w address next h k a =
    subst (λ (u : View). RangeRead v u address 0 next (pieces.short_range u)) (sym a.is)
    (pick (nat_lt 4 v.r.r3)
    (λ c. pick (nat_lt 0xC2 (sum_of Word v.r.r3 address))
    (λ f. rw (c, near_cell address h, f, visible_range v.r.r3 address true (omega arith) k f, pieces.short_range)
    (refl, goes_in (omega arith) (record { r2 = address; r4 = sum_of Word v.r.r3 address; r5 = 0; r6 = a.r6; next = next; is = refl })))
    (λ f. rw (c, near_cell address h, f, visible_range v.r.r3 address false (omega arith) k f, pieces.short_range)
    (goes_in (omega arith) (record { r4 = sum_of Word v.r.r3 address; r6 = a.r6; is = refl }))))
    (λ c. rw (c, visible_short v.r.r3 address c h, pieces.short_range)
    (goes_in (omega arith) (record { r4 = a.r4; r6 = a.r6; is = refl }))))
