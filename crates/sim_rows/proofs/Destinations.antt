-- The destination of a row, from the dispatch until it is kept.
use Rattle.std.proofs.Common.{ℕ, ◌+◌, ◌<◌, ◌∙◌, ◌≡◌, ◌≤◌, ap, arith, Bool, Err, false, nat_lt, not, Ok, Option, refl, Result, Some, subst, sym, true}
use Rattle.std.proofs.lemmas.Bool.{not-true}
use Rattle.sim_rows.specs.Prelude.{ADDR, Asking, AtDispatch, after_code, return_of_destination, after_first, bytes_by, code_byte, ReachesWithin, destination_bytes}
use Rattle.sim_rows.specs.Prelude.{destination_size, DIV, even, Exits, Finds, FindsOperand, first_of, gone_on, GplOperation, GplState, GSTOP, is_turn_end, is_row}
use Rattle.sim_rows.specs.Prelude.{IsVisible, KeepsDestination, LOAD, LoadsDestination, LoadsValue, MachineState, MUL, next_at, number_of_space, operand_at}
use Rattle.sim_rows.specs.Prelude.{operation_in, Place, place_of, PortsAreIdle, reads_destination, Reason, return_of, ROW, row_width, size_of, IsAt}
use Rattle.sim_rows.specs.Prelude.{state_at_dispatch, state_of, TwoName, View, view, WIDE, word_or_byte}
use Rattle.sim_view.specs.gpl_defs.declared.instruction.GplOperation.TheVariants as operation
use Rattle.sim_operands.proofs.Ready.{idle_video}
use Rattle.sim_rows.proofs.Again.{ports_are_idle}
use Rattle.sim_rows.proofs.Codes.{two_above}
use Rattle.sim_rows.proofs.Ends.{idle_of}
use Rattle.sim_rows.proofs.Places.{FoundVisible, visible_when_found, place_found_visible}
use Rattle.sim_rows.proofs.FirstOperand.{operand_stop, finds_of, fits, Located, located, space_small}
use Rattle.sim_rows.proofs.Entries.{Kind, returns_there, Storer, storer, Wide, wide}
use Rattle.sim_rows.proofs.Operands.{LoadedFrom, Loading, loads, visible_of}
use Rattle.sim_rows.proofs.Operands as operands
use Rattle.sim_rows.specs.Pieces as pieces
use Rattle.sim_view.specs.native_interp.declared.addresses.TheConstants.{OPSDST, OPSVAL, STDST, STROW, WIDDST, WIDVAL}

-- ---- how many bytes a destination takes

pub some_bytes : (o : Option GplOperation) (w : Bool) → (0 < bytes_by o (word_or_byte w)) × (bytes_by o (word_or_byte w) ≤ 4)
some_bytes o w = by o w
  where
    by_two : (op : TwoName) (w : Bool) → (0 < destination_size op (word_or_byte w)) × (destination_size op (word_or_byte w) ≤ 4)
    by_two MUL true = (omega arith, omega arith)
    by_two MUL false = (omega arith, omega arith)
    by_two DIV true = (omega arith, omega arith)
    by_two DIV false = (omega arith, omega arith)
    by_two _ true = (omega arith, omega arith)
    by_two _ false = (omega arith, omega arith)

    by : (o : Option GplOperation) (w : Bool) → (0 < bytes_by o (word_or_byte w)) × (bytes_by o (word_or_byte w) ≤ 4)
    by (Some (operation.Two op)) w = by_two op w
    by _ true = (omega arith, omega arith)
    by _ false = (omega arith, omega arith)

pub few_bytes : (w : Bool) → (0 < size_of (word_or_byte w)) × (size_of (word_or_byte w) ≤ 2)
few_bytes true = (omega arith, omega arith)
few_bytes false = (omega arith, omega arith)

-- ---- where they lie

-- the destination's bytes are visible
pub first_visible : (s : GplState) (place : Place) → first_of s ≡ Ok place → number_of_space place.space ≡ 0 → place.address + destination_bytes s ≤ 0xC2
first_visible s place e =
    visible_when_found (destination_bytes s) (first_of s) place (place_found_visible (gone_on s) (destination_bytes s) (operand_at s.image (after_code s)).0) e

-- what ADDR found is visible, and the ports stay idle
pub record FoundThere (x y : MachineState) : Type 0 where
  pub is_at : IsAt y (return_of (view x))
  pub visible : 0 < (view x).r.r3 → IsVisible (view y).r.r5 (view y).r.r2 (view y).r.r3
  pub idle : PortsAreIdle x.cpu.memory → PortsAreIdle y.cpu.memory

pub found_there : (x y : MachineState) (t u : ℕ) → (y.cpu.pc ≡ GSTOP → ⊥) → FindsOperand x y t u → FoundThere x y
found_there x y t u elsewhere f =
    let v : View = view x in
    let read = operand_at v.grom.image (next_at v) in
    by read.1 (place_of (state_of v) v.r.r3 read.0) (place_found_visible (state_of v) v.r.r3 read.0) f
  where
    by : (next : ℕ) (r : Result Place Reason) → FoundVisible (view x).r.r3 r → Finds x y t u next r → FoundThere x y
    by next (Ok place) lies c =
        let is = c.holds.is in
        record {
          is_at = c.is_at;
          visible = λ some. visible_of place (view x).r.r3 (view y).r.r5 (view y).r.r2 (view y).r.r3 (ap (λ (u : View). u.r.r5) is)
              (ap (λ (u : View). u.r.r2) is) (ap (λ (u : View). u.r.r3) is) some lies;
          idle = λ i. ports_are_idle y.cpu.memory (ap (λ (u : View). u.vdp.held) is ∙ idle_video x.cpu.memory i) (ap (λ (u : View). u.grom.half_written) is);
        }
    by next (Err reason) lies c = absurd (elsewhere c.is_at.pc)

pub visible_again : (v w : View) → w ≡ v → IsVisible v.r.r5 v.r.r2 v.r.r3 → IsVisible w.r.r5 w.r.r2 w.r.r3
visible_again v w e h = subst (λ (u : View). IsVisible u.r.r5 u.r.r2 u.r.r3) (sym e) h

-- ---- ADDR finds it or not

module _ {x : MachineState} (at : AtDispatch is_row x) where
  abbrev s : GplState
  s = state_at_dispatch (view x)

  abbrev label : ℕ
  label = return_of_destination (operation_in s)

  abbrev bytes : ℕ
  bytes = destination_bytes s

  module _ {b : MachineState} {t t2 : ℕ} (c : ReachesWithin 6 x b t t2 ADDR (Asking s bytes (after_code s) label)) (y : MachineState) (u : ℕ)
      (f : FindsOperand b y t2 u) where
    finds : Finds b y t2 u (after_first s) (first_of s)
    finds = finds_of s (gone_on s) bytes (after_code s) b y t2 u c.holds.holds refl f

    locates : (place : Place) → Finds b y t2 u (after_first s) (Ok place) → ReachesWithin 44 x y t u label (Located s bytes place (after_first s))
    locates place g = located s bytes (after_code s) (after_first s) label 6 x b y t t2 u place (returns_there (operation_in s) at.family).0 c g

    pub stops : y.cpu.pc ≡ GSTOP → LoadsDestination s x y t u false (first_of s)
    stops here = by (first_of s) finds
      where
        by : (r : Result Place Reason) → Finds b y t2 u (after_first s) r → LoadsDestination s x y t u false r
        by (Ok place) g = absurd ((returns_there (operation_in s) at.family).1 (sym (locates place g).is_at.pc ∙ here))
        by (Err reason) g = (refl, operand_stop s bytes (after_code s) label 6 reason x b y t t2 u c g)

    -- it was found
    pub record Destination : Type 0 where
      pub place : Place
      pub is_place : first_of s ≡ Ok place
      pub comes : ReachesWithin 44 x y t u label (Located s bytes place (after_first s))

    pub found : (y.cpu.pc ≡ GSTOP → ⊥) → Destination
    found elsewhere = by (first_of s) refl finds
      where
        by : (r : Result Place Reason) → first_of s ≡ r → Finds b y t2 u (after_first s) r → Destination
        by (Ok place) e g = record { place = place; is_place = e; comes = locates place g }
        by (Err reason) e g = absurd (elsewhere g.is_at.pc)

    module _ (elsewhere : y.cpu.pc ≡ GSTOP → ⊥) where
      abbrev place : Place
      place = (found elsewhere).place

      there : (p : ℕ) → label ≡ p → ReachesWithin 44 x y t u p (Located s bytes place (after_first s))
      there p e = subst (λ (n : ℕ). ReachesWithin 44 x y t u n (Located s bytes place (after_first s))) e (found elsewhere).comes

      kept : (z : MachineState) (w : ℕ) (n : Bool) → nat_lt (code_byte s) 0xA0 ≡ n → KeepsDestination s place x z t w (not n) →
          LoadsDestination s x z t w true (first_of s)
      kept z w n has run =
          subst (λ (r : Result Place Reason). LoadsDestination s x z t w true r) (sym (found elsewhere).is_place)
          (refl, subst (λ (b : Bool). KeepsDestination s place x z t w (not b)) (sym has) run)

      above : (op : TwoName) → operation_in s ≡ Some (operation.Two op) → nat_lt (code_byte s) 0xA0 ≡ false
      above op is = not-true _ (two_above (code_byte s) (fits at) op is)

      module _ (here : x.cpu.pc ≡ STROW) where
        k : Storer (operation_in s)
        k = storer (operation_in s) at.family (sym at.is_at.pc ∙ here)

        pub at_stored : IsAt y STDST
        at_stored = (there STDST k.kind.label_is).is_at

        pub stored : {z : MachineState} {w : ℕ} → Exits y z u w (pieces.keep_stored (view y)) → LoadsDestination s x z t w true (first_of s)
        stored {z = z} {w = w} e =
            let n = k.kind.bytes (row_width s) in
            kept z w false (above _ k.is)
            (operands.stored s place (there STDST k.kind.label_is) refl z w (omega arith) (ap reads_destination k.is) e)

      -- its value is loaded
      module _ (link to : ℕ) (is : label ≡ to) (goes : is_turn_end to ≡ false) {z : MachineState} {w : ℕ} (e : Exits y z u w (pieces.load_kept link (view y))) where
        loading : ReachesWithin 47 x z t w LOAD (Loading s bytes place place (after_first s) link)
        loading = operands.asks_value s place (there to is) goes link z w e

        pub idle_loading : PortsAreIdle z.cpu.memory
        idle_loading = idle_of z.cpu.memory s (after_first s) loading.holds.holds.sees

        pub visible_loading : 0 < (view b).r.r3 → IsVisible (view z).r.r5 (view z).r.r2 (view z).r.r3
        visible_loading some = visible_again (pieces.load_kept link (view y)).left (view z) e.shows ((found_there b y t2 u elsewhere f).visible some)

        pub value : even link ≡ link → {q : MachineState} {k : ℕ} → ((view z).r.r5 < 2 → LoadsValue z q w k) →
            ReachesWithin 62 x q t k link (LoadedFrom s bytes place place (after_first s) (view z).r.r9)
        value even_link {q = q} {k = k} l =
            loads s bytes place place (after_first s) link 47 x z q t w k even_link loading
            (l (space_small place.space (view z).r.r5 loading.holds.from.space))

      module _ (here : x.cpu.pc ≡ WIDE) where
        pub wide_here : Wide (operation_in s)
        wide_here = wide (operation_in s) at.family (sym at.is_at.pc ∙ here)

        pub at_wide : IsAt y WIDDST
        at_wide = (there WIDDST wide_here.kind.label_is).is_at

        pub kept_wide : {z q p : MachineState} {w k n : ℕ} → ((view z).r.r5 < 2 → LoadsValue z q w k) → Exits y z u w (pieces.load_wide (view y)) →
            Exits q p k n (pieces.keep_wide (view q)) → LoadsDestination s x p t n true (first_of s)
        kept_wide {p = p} {n = n} l e f =
            let o = wide_here in
            kept p n false (above o.name o.is)
            (operands.wide s place (value WIDVAL WIDDST o.kind.label_is refl e refl l) refl (o.kind.bytes (row_width s)) f)

      module _ (o : Kind (operation_in s) ROW OPSDST 1) where
        pub at_first : IsAt y OPSDST
        at_first = (there OPSDST o.label_is).is_at

        pub kept_first : {z q p : MachineState} {w k n : ℕ} → ((view z).r.r5 < 2 → LoadsValue z q w k) → Exits y z u w (pieces.load_first (view y)) →
            Exits q p k n (pieces.keep_first (view q)) → LoadsDestination s x p t n true (first_of s)
        kept_first {q = q} {p = p} {k = k} {n = n} l e f = by (nat_lt (code_byte s) 0xA0) refl
          where
            single : bytes ≡ size_of (row_width s)
            single = let b = o.bytes (row_width s) in omega arith

            by : (b : Bool) → nat_lt (code_byte s) 0xA0 ≡ b → LoadsDestination s x p t n true (first_of s)
            by true below = kept p n true below (operands.one s place (value OPSVAL OPSDST o.label_is refl e refl l) refl single f below)
            by false high = kept p n false high (operands.two s place (value OPSVAL OPSDST o.label_is refl e refl l) refl single f high)
