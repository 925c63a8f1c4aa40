-- The values of the operands of a row.
use Rattle.std.proofs.Common.{ℕ, ◌%◌, ◌*◌, ◌+◌, ◌-◌, ◌/◌, ◌<◌, ◌==◌, ◌∙◌, ◌≡◌, ◌≤◌, ap, arith, Bool, eqb, false, List, nat_lt, None, Option}
use Rattle.std.proofs.Common.{refl, slice_index, Some, subst, sym, true}
use Rattle.std.proofs.lemmas.Bool.Decides.{nat_tests}
use Rattle.sim_view.proofs.Common.{comes_as, comes_on, comes_then, goes_in, pick}
use Rattle.sim_rows.specs.Prelude.{ADDR, Addressed, OperandStop, after_first, Byte, byte_in, code_byte, ReachesWithin, Cpu, destination_bytes, even, Exits, GO}
use Rattle.sim_rows.specs.Prelude.{GplState, GSTOP, Holds, in_register, INTERP, is_turn_end, is_row, IsVisible, join, Kept, last_out, LOAD, Loaded, LoadsFrom}
use Rattle.sim_rows.specs.Prelude.{LoadsFromSource, LoadsValue, MachineState, number_of_space, operation_in, OPVAL, Place, place_in, Placed, plus, Reason}
use Rattle.sim_rows.specs.Prelude.{reads_destination, return_of, row_entry, row_width, shifted, size_of, Source, Sourced, Space, SRL, state_of, StoppedBy}
use Rattle.sim_rows.specs.Prelude.{StoresTo, unit, value_at, Vdp, View, view, Width, width_in, Word, word_of, word_or_byte}
use Rattle.sim_operands.proofs.Facts.{not_both}
use Rattle.sim_rows.proofs.Codes.{row_is}
use Rattle.sim_rows.proofs.FirstOperand.{rejected_stops, from_placed, holds_addressed, holds_again, holds_loaded, Located, place_is}
use Rattle.sim_rows.specs.Pieces as pieces
use Rattle.sim_view.specs.native_interp.declared.addresses.TheConstants.{OPSTWO}
use Rattle.sim_view.specs.Bounds.{bound_of_address, bound_of_load}

-- ---- a value is one of cells and video memory alone

byte_same : (s t : GplState) (space : Space) (address : ℕ) → s.cells ≡ t.cells → s.vdp ≡ t.vdp → byte_in space s address ≡ byte_in space t address
byte_same s t Cpu address c d = ap (λ (l : List ℕ). slice_index l address) c
byte_same s t Vdp address c d = ap (λ (l : List ℕ). slice_index l (address % 16384)) d

pub value_same : (s t : GplState) (width : Width) (place : Place) → s.cells ≡ t.cells → s.vdp ≡ t.vdp → value_at s width place ≡ value_at t width place
value_same s t Byte place c d = byte_same s t place.space place.address c d
value_same s t Word place c d =
    ap (λ n. join n (byte_in place.space s (plus place.address 1))) (byte_same s t place.space place.address c d)
    ∙ ap (λ n. join (byte_in place.space t place.address) n) (byte_same s t place.space (plus place.address 1) c d)

-- ---- LOAD is asked for the value at a place

pub record Loading (s : GplState) (bytes : ℕ) (place kept : Place) (next to : ℕ) (w : View) : Type 0 where
  pub holds : Holds s bytes next w
  pub from : LoadsFrom place w
  pub to_place : StoresTo kept w
  pub link : w.r.r11 ≡ to

-- a width is no longer than the bytes that are given
size_within : (bytes : ℕ) → 0 < bytes → size_of (width_in bytes) ≤ bytes
size_within bytes some =
    pick (bytes == 1) (λ e. rw e (let one : bytes ≡ 1 = grind (arith, nat_tests) in omega arith))
    (λ e. rw e (let two : 2 ≤ bytes = grind (arith, nat_tests) in two))

-- the place is visible
pub visible_of : (place : Place) (bytes space address given : ℕ) → space ≡ number_of_space place.space → address ≡ place.address → given ≡ bytes → 0 < bytes →
    (number_of_space place.space ≡ 0 → place.address + bytes ≤ 0xC2) → IsVisible space address given
visible_of place bytes space address given a b c some h =
    λ z. let zero : number_of_space place.space ≡ 0 = sym a ∙ z in
    let end = h zero in
    let size : size_of (width_in given) ≤ bytes = subst (λ (n : ℕ). size_of (width_in n) ≤ bytes) (sym c) (size_within bytes some) in
    omega arith

-- the value that it gives
number_is : (s : GplState) (bytes : ℕ) (place : Place) (next : ℕ) (v : View) → Holds s bytes next v → LoadsFrom place v →
    value_at (state_of v) (width_in v.r.r3) (place_in v.r.r5 v.r.r2) ≡ value_at s (width_in bytes) place
number_is s bytes place next v h f =
    ap (λ (n : ℕ). value_at (state_of v) (width_in n) (place_in v.r.r5 v.r.r2)) h.bytes_are
    ∙ ap (λ (n : ℕ). value_at (state_of v) (width_in bytes) (place_in n v.r.r2)) f.space
    ∙ ap (λ (n : ℕ). value_at (state_of v) (width_in bytes) (place_in (number_of_space place.space) n)) f.address
    ∙ ap (λ (p : Place). value_at (state_of v) (width_in bytes) p) (place_is place)
    ∙ value_same (state_of v) s (width_in bytes) place h.sees.cells h.sees.vdp

-- it was loaded; register 9 is as it was
pub record LoadedFrom (s : GplState) (bytes : ℕ) (place kept : Place) (next r9 : ℕ) (w : View) : Type 0 where
  pub holds : Holds s bytes next w
  pub from : LoadsFrom place w
  pub to_place : StoresTo kept w
  pub value : w.r.r6 ≡ in_register (width_in bytes) (value_at s (width_in bytes) place)
  pub before : w.r.r9 ≡ r9

pub loads : (s : GplState) (bytes : ℕ) (place kept : Place) (next to most : ℕ) (x y z : MachineState) (t u w : ℕ) → even to ≡ to →
    ReachesWithin most x y t u LOAD (Loading s bytes place kept next to) → LoadsValue y z u w →
    ReachesWithin (most + 15) x z t w to (LoadedFrom s bytes place kept next (view y).r.r9)
loads s bytes place kept next to most x y z t u w even_to c d =
    let v : View = view y in
    let h = c.holds.holds in
    let e : return_of v ≡ to = ap even c.holds.link ∙ even_to in
    let number = value_at (state_of v) (width_in v.r.r3) (place_in v.r.r5 v.r.r2) in
    let d2 : ReachesWithin bound_of_load y z u w to (Loaded v number) = subst (λ (p : ℕ). ReachesWithin bound_of_load y z u w p (Loaded v number)) e d in
    comes_as (most + 15) _ (comes_on most 15 c d2 refl) (omega arith) (λ q a. record {
      holds = holds_loaded s bytes next number v q h a;
      from = record { address = ap (λ (u : View). u.r.r2) a.is ∙ c.holds.from.address; space = ap (λ (u : View). u.r.r5) a.is ∙ c.holds.from.space };
      to_place =
          record { address = ap (λ (u : View). u.r.r7) a.is ∙ c.holds.to_place.address; space = ap (λ (u : View). u.r.r8) a.is ∙ c.holds.to_place.space };
      value = ap (λ (u : View). u.r.r6) a.is ∙ ap (λ (n : ℕ). in_register (width_in n) number) h.bytes_are
          ∙ ap (in_register (width_in bytes)) (number_is s bytes place next v h c.holds.from);
      before = ap (λ (u : View). u.r.r9) a.is;
    })

-- ---- the destination is kept

halved : (w : Width) → shifted SRL (2 * size_of w) 1 ≡ size_of w
halved Byte = refl
halved Word = refl

-- with its value, the source is there
pub sourced : {s : GplState} {place : Place} {source : Source} {next : ℕ} {w : View} → Kept s place next w → LoadsFromSource source.place w →
    w.r.r6 ≡ in_register (row_width s) source.number → Sourced s place source next w
sourced k f v = record { holds = k.holds; to_place = k.to_place; destination = k.destination; from_source = f; value = v }

module _ (s : GplState) (place : Place) where
  abbrev bytes : ℕ
  bytes = destination_bytes s

  abbrev next : ℕ
  next = after_first s

  module _ {x y : MachineState} {t u : ℕ} where
    -- its place was found
    module _ {label : ℕ} (c : ReachesWithin 44 x y t u label (Located s bytes place next)) (goes : is_turn_end label ≡ false) where
      -- ST does not load it
      pub stored : (z : MachineState) (w : ℕ) → bytes ≡ size_of (row_width s) → reads_destination (operation_in s) ≡ false →
          Exits y z u w (pieces.keep_stored (view y)) → ReachesWithin 65 x z t w OPSTWO (Kept s place next)
      stored z w single unread e =
          let h = c.holds.holds in
          comes_as 65 _ (comes_then 44 2 c e (record {
            within = omega arith;
            to_is = refl;
            holds = record {
              holds = holds_again s bytes (size_of (row_width s)) next (view y) (pieces.keep_stored (view y)).left h refl refl refl refl refl refl
                  (h.bytes_are ∙ single);
              to_place = record { address = c.holds.from.address; space = c.holds.from.space };
              destination = λ reads. absurd (not_both (reads_destination (operation_in s)) reads unread);
            };
          }) goes) (omega arith) (λ v a. a)

      -- LOAD is asked for its value
      pub asks_value : (link : ℕ) (z : MachineState) (w : ℕ) → Exits y z u w (pieces.load_kept link (view y)) →
          ReachesWithin 47 x z t w LOAD (Loading s bytes place place next link)
      asks_value link z w e =
          let f = c.holds.from in
          let v : View = view y in
          comes_then 44 3 c e (record {
            within = omega arith;
            to_is = refl;
            holds = record {
              holds = holds_again s bytes bytes next v (pieces.load_kept link v).left c.holds.holds refl refl refl refl refl refl c.holds.holds.bytes_are;
              from = record { address = f.address; space = f.space };
              to_place = record { address = f.address; space = f.space };
              link = refl;
            };
          }) goes

    -- its value was loaded
    module _ {label r9 : ℕ} (c : ReachesWithin 62 x y t u label (LoadedFrom s bytes place place next r9)) (goes : is_turn_end label ≡ false) where
      abbrev v : View
      v = view y

      keeps : (q : View) → q.cells ≡ v.cells → q.vdp ≡ v.vdp → q.grom ≡ v.grom → q.r.r0 ≡ v.r.r0 → q.r.r1 ≡ v.r.r1 → q.r.r13 ≡ v.r.r13 →
          q.r.r3 ≡ size_of (row_width s) → q.r.r7 ≡ v.r.r7 → q.r.r8 ≡ v.r.r8 → q.r.r9 ≡ v.r.r6 → Kept s place next q
      keeps q a b g r0 r1 r13 r3 r7 r8 nine = record {
        holds = holds_again s bytes (size_of (row_width s)) next v q c.holds.holds a b g r0 r1 r13 r3;
        to_place = record { address = r7 ∙ c.holds.to_place.address; space = r8 ∙ c.holds.to_place.space };
        destination = λ reads. nine ∙ c.holds.value;
      }

      -- MUL and DIV
      pub wide : {z : MachineState} {w : ℕ} → bytes ≡ 2 * size_of (row_width s) → Exits y z u w (pieces.keep_wide v) →
          ReachesWithin 65 x z t w OPSTWO (Kept s place next)
      wide twice e =
          comes_as 65 _ (comes_then 62 3 c e (record {
            within = omega arith;
            to_is = refl;
            holds = keeps (pieces.keep_wide v).left refl refl refl refl refl refl
                (ap (λ n. shifted SRL n 1) (c.holds.holds.bytes_are ∙ twice) ∙ halved (row_width s)) refl refl refl;
          }) goes) (omega arith) (λ v a. a)

      module _ {z : MachineState} {w : ℕ} (single : bytes ≡ size_of (row_width s)) (e : Exits y z u w (pieces.keep_first v)) where
        size : v.r.r3 ≡ size_of (row_width s)
        size = c.holds.holds.bytes_are ∙ single

        pub two : nat_lt (code_byte s) 0xA0 ≡ false → ReachesWithin 65 x z t w OPSTWO (Kept s place next)
        two above =
            let high : nat_lt v.r.r0 0xA0 ≡ false = ap (λ n. nat_lt n 0xA0) c.holds.holds.code ∙ above in
            comes_as 65 _ (comes_then 62 3 c e (rw (high, pieces.keep_first) (goes_in (omega arith)
            (keeps _ refl refl refl refl refl refl size refl refl refl))) goes) (omega arith) (λ v a. a)

        -- a row of one operand has 1 for the source
        one_by : nat_lt (code_byte s) 0xA0 ≡ true → (b : Bool) → word_of s ≡ b → ReachesWithin 69 x z t w GO (Sourced s place unit next)
        one_by below true is =
            let low : nat_lt v.r.r0 0xA0 ≡ true = ap (λ n. nat_lt n 0xA0) c.holds.holds.code ∙ below in
            let word : (v.r.r3 == 1) ≡ false = ap (λ n. n == 1) (size ∙ ap (λ b. size_of (word_or_byte b)) is) in
            comes_then 62 7 c e (rw (low, word, pieces.keep_first) (goes_in (omega arith)
            (sourced (keeps _ refl refl refl refl refl refl size refl refl refl) tt (sym (ap (λ b. in_register (word_or_byte b) 1) is))))) goes
        one_by below false is =
            let low : nat_lt v.r.r0 0xA0 ≡ true = ap (λ n. nat_lt n 0xA0) c.holds.holds.code ∙ below in
            let byte : (v.r.r3 == 1) ≡ true = ap (λ n. n == 1) (size ∙ ap (λ b. size_of (word_or_byte b)) is) in
            comes_then 62 7 c e (rw (low, byte, pieces.keep_first) (goes_in (omega arith)
            (sourced (keeps _ refl refl refl refl refl refl size refl refl refl) tt (sym (ap (λ b. in_register (word_or_byte b) 1) is))))) goes

        pub one : nat_lt (code_byte s) 0xA0 ≡ true → ReachesWithin 69 x z t w GO (Sourced s place unit next)
        one below = one_by below (word_of s) refl

-- ---- the second operand's place

pub immediate_bit : (code : ℕ) → code < 256 → last_out SRL code 2 ≡ (code / 2 % 2 == 1)
immediate_bit code h = let n : (65536 * 0 + code) / 2 % 2 ≡ code / 2 % 2 = omega arith in ap (λ (k : ℕ). eqb k 1) n

-- it is asked for
pub record Operand (s : GplState) (place : Place) (next : ℕ) (w : View) : Type 0 where
  pub kept : Kept s place next w
  pub link : w.r.r11 ≡ OPVAL

-- it is found
pub record Found (s : GplState) (place source : Place) (next : ℕ) (w : View) : Type 0 where
  pub kept : Kept s place next w
  pub from : LoadsFrom source w

-- what ADDR keeps of the destination
kept_addressed : (s : GplState) (kept : Place) (at next : ℕ) (v w : View) {address form : ℕ} → Kept s kept at v → Addressed v address form next w →
    Kept s kept next w
kept_addressed s kept at next v w q a = record {
  holds = holds_addressed s (size_of (row_width s)) at next v w q.holds a;
  to_place = record { address = ap (λ (u : View). u.r.r7) a.is ∙ q.to_place.address; space = ap (λ (u : View). u.r.r8) a.is ∙ q.to_place.space };
  destination = λ reads. ap (λ (u : View). u.r.r9) a.is ∙ q.destination reads;
}

module _ (s : GplState) (kept : Place) (at : ℕ) {x y z : MachineState} {t u w : ℕ} (c : ReachesWithin 4 x y t u ADDR (Operand s kept at)) where
  pub finds_second : (place : Place) (next : ℕ) → ReachesWithin bound_of_address y z u w (return_of (view y)) (Placed (view y) next place) →
      ReachesWithin 42 x z t w OPVAL (Found s kept place next)
  finds_second place next d =
      let d2 : ReachesWithin bound_of_address y z u w OPVAL (Placed (view y) next place) =
      subst (λ (p : ℕ). ReachesWithin bound_of_address y z u w p (Placed (view y) next place)) (ap even c.holds.link) d in
      comes_as 42 (Found s kept place next) (comes_on 4 38 c d2 refl) (omega arith)
      (λ v a. record { kept = kept_addressed s kept at next (view y) v c.holds.kept a; from = from_placed next place (view y) v a })

  pub bars_second : (reason : Reason) → ReachesWithin bound_of_address y z u w GSTOP (OperandStop (view y) reason) → ReachesWithin 42 x z t w GSTOP (StoppedBy s reason)
  bars_second reason d =
      comes_as 42 (StoppedBy s reason) (comes_on 4 38 c d refl) (omega arith) (λ v a. rejected_stops s (size_of (row_width s)) at reason
      (view y) v c.holds.kept.holds a)

-- ---- the second dispatch

from_again : (place : Option Place) (v w : View) → LoadsFromSource place v → w.r.r2 ≡ v.r.r2 → w.r.r5 ≡ v.r.r5 → LoadsFromSource place w
from_again None v w f a b = tt
from_again (Some place) v w f a b = record { address = a ∙ f.address; space = b ∙ f.space }

pub goes_to_row : (s : GplState) (kept : Place) (source : Source) (next most : ℕ) {x y z : MachineState} {t u w : ℕ} → code_byte s < 256 →
    is_row (operation_in s) ≡ true → ReachesWithin most x y t u GO (Sourced s kept source next) → Exits y z u w (pieces.go_to_row (view y)) →
    ReachesWithin (most + 3) x z t w (row_entry (operation_in s)) (Sourced s kept source next)
goes_to_row s kept source next most {y = y} fits row c e =
    let q = c.holds in
    let v : View = view y in
    comes_then most 3 c e (record {
      within = omega arith;
      to_is = ap (λ (n : ℕ). even (slice_index INTERP (pieces.first_row + (n - 0x80) / 2))) q.holds.code ∙ row_is (code_byte s) fits row;
      holds = record {
        holds = holds_again s (size_of (row_width s)) (size_of (row_width s)) next v (pieces.go_to_row v).left q.holds refl refl refl refl refl refl
            q.holds.bytes_are;
        to_place = record { address = q.to_place.address; space = q.to_place.space };
        destination = q.destination;
        from_source = from_again source.place v (pieces.go_to_row v).left q.from_source refl refl;
        value = q.value;
      };
    }) refl
