-- The operands of a row, piece by piece: the first operand is asked for and found.
use Rattle.std.proofs.Common.{ℕ, ◌%◌, ◌*◌, ◌+◌, ◌<◌, ◌==◌, ◌∙◌, ◌≡◌, ◌≤◌, ap, arith, Bool, false, List, refl, Result, subst, sym, true}
use Rattle.std.proofs.lemmas.Nat.{and_mask}
use Rattle.std.proofs.lemmas.Bool.Decides.{nat_tests}
use Rattle.sim_view.proofs.Common.{comes, comes_as, comes_on, Goes, is_view, previous-next, pick}
use Rattle.sim_rows.specs.Prelude.{ADDR, Addressed, Asking, AtDispatch, OperandStop, after_code, return_of_destination, code_byte, ReachesWithin, conjunction_of, Cpu}
use Rattle.sim_rows.specs.Prelude.{destination_bytes}
use Rattle.sim_rows.specs.Prelude.{Dispatched, even, Exits, Finds, FindsOperand, GplState, grom_at, GromState, GSTOP, Holds, is_row, Loaded, LoadsFrom}
use Rattle.sim_rows.specs.Prelude.{MachineState, next_at, number_of_space, operand_at, operation_in, Place, place_in, place_of, Placed, previous_in_grom}
use Rattle.sim_rows.specs.Prelude.{Reason, return_of, ROW, row_width, ShowsState, size_of, Space, state_at_dispatch, state_of, StoppedBy, Vdp, VdpState, View, view}
use Rattle.sim_rows.specs.Prelude.{WIDE, width_in, word_or_byte}
use Rattle.sim_rows.proofs.Entries.{Kind, narrow, storer, wide}
use Rattle.sim_rows.proofs.Steps.{place_same}
use Rattle.sim_rows.specs.Pieces as pieces
use Rattle.sim_view.specs.native_interp.declared.addresses.TheConstants.{OPSDST, STDST, STROW, WIDDST}
use Rattle.sim_view.specs.Bounds.{bound_of_address}

-- ---- numbers

-- the width of a code byte's operands
pub width_is : (code : ℕ) → pieces.width_of_code code ≡ code % 2 + 1
width_is code = let lowest : conjunction_of code 1 ≡ code % 2 = and_mask code 1 in omega arith

twice_is : (code : ℕ) → code < 256 → pieces.twice_of_code code ≡ 2 * (code % 2 + 1)
twice_is code h = omega arith

pub size_is : (code : ℕ) → size_of (word_or_byte (code % 2 == 1)) ≡ code % 2 + 1
size_is code =
    pick (code % 2 == 1) (λ e. let one : code % 2 ≡ 1 = grind (arith, nat_tests) in rw (e, one) refl)
    (λ e. let none : code % 2 ≡ 0 = grind (arith, nat_tests) in rw (e, none) refl)

-- register 3 says that width
pub width_of_size : (w : Bool) → width_in (size_of (word_or_byte w)) ≡ word_or_byte w
width_of_size true = refl
width_of_size false = refl

place_by : (space : Space) (address : ℕ) → place_in (number_of_space space) address ≡ record { space = space; address = address }
place_by Cpu address = refl
place_by Vdp address = refl

pub place_is : (place : Place) → place_in (number_of_space place.space) place.address ≡ place
place_is place = place_by place.space place.address

pub space_small : (space : Space) (number : ℕ) → number ≡ number_of_space space → number < 2
space_small Cpu number e = omega arith
space_small Vdp number e = omega arith

-- ---- what holds where ADDR is asked

-- a view with the same cells and ports sees the same
pub sees_again : (s : GplState) (next : ℕ) (v w : View) → ShowsState s next v → w.cells ≡ v.cells → w.vdp ≡ v.vdp → w.grom ≡ v.grom → ShowsState s next w
sees_again s next v w h c d g = record {
  cells = c ∙ h.cells;
  vdp = ap (λ (p : VdpState). p.memory) d ∙ h.vdp;
  registers = ap (λ (p : VdpState). p.registers) d ∙ h.registers;
  held = ap (λ (p : VdpState). p.held) d ∙ h.held;
  grom = g ∙ h.grom;
}

pub holds_again : (s : GplState) (bytes more next : ℕ) (v w : View) → Holds s bytes next v → w.cells ≡ v.cells → w.vdp ≡ v.vdp → w.grom ≡ v.grom →
    w.r.r0 ≡ v.r.r0 → w.r.r1 ≡ v.r.r1 → w.r.r13 ≡ v.r.r13 → w.r.r3 ≡ more → Holds s more next w
holds_again s bytes more next v w h c d g r0 r1 r13 r3 = record {
  sees = sees_again s next v w h.sees c d g;
  code = r0 ∙ h.code;
  address = r1 ∙ h.address;
  bytes_are = r3;
  mark = r13 ∙ h.mark;
}

pub holds_addressed : (s : GplState) (bytes at next : ℕ) (v w : View) {address form : ℕ} → Holds s bytes at v → Addressed v address form next w →
    Holds s bytes next w
holds_addressed s bytes at next v w h a = subst (Holds s bytes next) (sym a.is) (record {
  sees = record {
    cells = h.sees.cells;
    vdp = h.sees.vdp;
    registers = h.sees.registers;
    held = h.sees.held;
    grom = ap (λ (g : GromState). grom_at g.image next) h.sees.grom;
  };
  code = h.code;
  address = h.address;
  bytes_are = h.bytes_are;
  mark = h.mark;
})

pub from_placed : (next : ℕ) (place : Place) (v w : View) → Placed v next place w → LoadsFrom place w
from_placed next place v w a = record { address = ap (λ (u : View). u.r.r2) a.is; space = ap (λ (u : View). u.r.r5) a.is }

pub holds_loaded : (s : GplState) (bytes at number : ℕ) (v w : View) → Holds s bytes at v → Loaded v number w → Holds s bytes at w
holds_loaded s bytes at number v w h a = subst (Holds s bytes at) (sym a.is) (record {
  sees = record { cells = h.sees.cells; vdp = h.sees.vdp; registers = h.sees.registers; held = h.sees.held; grom = h.sees.grom };
  code = h.code;
  address = h.address;
  bytes_are = h.bytes_are;
  mark = h.mark;
})

-- A stop by the cells keeps the state.
pub rejected_stops : (s : GplState) (bytes at : ℕ) (reason : Reason) (v w : View) → Holds s bytes at v → OperandStop v reason w → StoppedBy s reason w
rejected_stops s bytes at reason v w h a = subst (StoppedBy s reason) (sym a.is) (record {
  ended = record {
    cells = h.sees.cells;
    vdp = h.sees.vdp;
    registers = h.sees.registers;
    image = ap (λ (g : GromState). g.image) h.sees.grom;
    address = h.address;
  };
  reason_is = refl;
})

-- ---- what ADDR finds, by the state

pub finds_of : (s t : GplState) (bytes at : ℕ) (x y : MachineState) (before after : ℕ) → Holds s bytes at (view x) → t.cells ≡ s.cells →
    FindsOperand x y before after →
    (let read = operand_at s.image at in Finds x y before after read.1 (place_of t bytes read.0))
finds_of s t bytes at x y before after h same f =
    let v : View = view x in
    let found : List ℕ → ℕ → ℕ → Type 0 = λ image from bytes. (let read = operand_at image from in
    Finds x y before after read.1 (place_of (state_of v) bytes read.0)) in
    let n : next_at v ≡ at = ap (λ (g : GromState). previous_in_grom g.counter) h.sees.grom ∙ previous-next at in
    let f1 = subst (λ (l : List ℕ). found l (next_at v) v.r.r3) (ap (λ (g : GromState). g.image) h.sees.grom) f in
    let f2 = subst (λ (b : ℕ). found s.image at b) h.bytes_are (subst (λ (k : ℕ). found s.image k v.r.r3) n f1) in
    let read = operand_at s.image at in
    subst (λ (r : Result Place Reason). Finds x y before after read.1 r) (place_same (state_of v) t bytes read.0 (h.sees.cells ∙ sym same)) f2

-- ---- the first operand

narrow_is : (s : GplState) (v : View) → v.r.r0 ≡ code_byte s → pieces.width_of_code v.r.r0 ≡ size_of (row_width s)
narrow_is s v e = ap pieces.width_of_code e ∙ width_is (code_byte s) ∙ sym (size_is (code_byte s))

wide_is : (s : GplState) (v : View) → v.r.r0 ≡ code_byte s → code_byte s < 256 → pieces.twice_of_code v.r.r0 ≡ 2 * size_of (row_width s)
wide_is s v e h = ap pieces.twice_of_code e ∙ twice_is (code_byte s) h ∙ ap (λ n. 2 * n) (sym (size_is (code_byte s)))

-- ADDR is asked for it
asks : (s : GplState) (v : View) (count bytes link : ℕ) → count ≤ 6 → Dispatched s v → bytes ≡ destination_bytes s →
    Goes (pieces.request_place count bytes link v) 6 ADDR (Asking s (destination_bytes s) (after_code s) link)
asks s v count bytes link within d e = record {
  within = within;
  to_is = refl;
  holds = record {
    holds = record {
      sees = sees_again s (after_code s) v (pieces.request_place count bytes link v).left d.sees refl refl refl;
      code = d.code;
      address = d.address;
      bytes_are = e;
      mark = refl;
    };
    link = refl;
  };
}

module _ {x : MachineState} (at : AtDispatch is_row x) where
  abbrev s : GplState
  s = state_at_dispatch (view x)

  pub fits : code_byte s < 256
  fits = (is_view x at.is_at.machine).grom.image.fits s.pc

  abbrev Asks : MachineState → ℕ → ℕ → Type 0
  Asks y t u = ReachesWithin 6 x y t u ADDR (Asking s (destination_bytes s) (after_code s) (return_of_destination (operation_in s)))

  asks_at : {y : MachineState} {t u : ℕ} (count bytes link : ℕ) → count ≤ 6 → bytes ≡ destination_bytes s → return_of_destination (operation_in s) ≡ link →
      Exits x y t u (pieces.request_place count bytes link (view x)) → Asks y t u
  asks_at {y = y} {t = t} {u = u} count bytes link within size is e =
      subst (λ (n : ℕ). ReachesWithin 6 x y t u ADDR (Asking s (destination_bytes s) (after_code s) n)) (sym is)
      (comes e (asks s (view x) count bytes link within at.dispatched size))

  module _ {y : MachineState} {t u : ℕ} where
    pub asks_stored : x.cpu.pc ≡ STROW → Exits x y t u (pieces.request_stored (view x)) → Asks y t u
    asks_stored here e =
        let k = (storer (operation_in s) at.family (sym at.is_at.pc ∙ here)).kind in
        let n = narrow_is s (view x) at.dispatched.code in
        let b = k.bytes (row_width s) in
        asks_at 5 (pieces.width_of_code (view x).r.r0) STDST (omega arith) (omega arith) k.label_is e

    pub asks_wide : x.cpu.pc ≡ WIDE → Exits x y t u (pieces.request_wide (view x)) → Asks y t u
    asks_wide here e =
        let k = (wide (operation_in s) at.family (sym at.is_at.pc ∙ here)).kind in
        let n = wide_is s (view x) at.dispatched.code fits in
        let b = k.bytes (row_width s) in
        asks_at 6 (pieces.twice_of_code (view x).r.r0) WIDDST (omega arith) (omega arith) k.label_is e

  module _ (not_wide : x.cpu.pc ≡ WIDE → ⊥) (not_stored : x.cpu.pc ≡ STROW → ⊥) where
    pub narrow_here : Kind (operation_in s) ROW OPSDST 1
    narrow_here = narrow (operation_in s) at.family (λ e. not_wide (at.is_at.pc ∙ e)) (λ e. not_stored (at.is_at.pc ∙ e))

    pub asks_first : {y : MachineState} {t u : ℕ} → Exits x y t u (pieces.request_first (view x)) → Asks y t u
    asks_first e =
        let k = narrow_here in
        let n = narrow_is s (view x) at.dispatched.code in
        let b = k.bytes (row_width s) in
        asks_at 5 (pieces.width_of_code (view x).r.r0) OPSDST (omega arith) (omega arith) k.label_is e

-- it is found, or not
pub record Located (s : GplState) (bytes : ℕ) (place : Place) (next : ℕ) (w : View) : Type 0 where
  pub holds : Holds s bytes next w
  pub from : LoadsFrom place w

pub located : (s : GplState) (bytes at next to most : ℕ) (x y z : MachineState) (t u w : ℕ) (place : Place) → even to ≡ to →
    ReachesWithin most x y t u ADDR (Asking s bytes at to) →
    ReachesWithin bound_of_address y z u w (return_of (view y)) (Placed (view y) next place) → ReachesWithin (most + bound_of_address) x z t w to (Located s bytes place next)
located s bytes at next to most x y z t u w place even_to c d =
    let e : return_of (view y) ≡ to = ap even c.holds.link ∙ even_to in
    let d2 : ReachesWithin bound_of_address y z u w to (Placed (view y) next place) =
    subst (λ (p : ℕ). ReachesWithin bound_of_address y z u w p (Placed (view y) next place)) e d in
    comes_as (most + bound_of_address) (Located s bytes place next) (comes_on most 38 c d2 refl) (omega arith)
    (λ v a. record { holds = holds_addressed s bytes at next (view y) v c.holds.holds a; from = from_placed next place (view y) v a })

pub operand_stop : (s : GplState) (bytes at to most : ℕ) (reason : Reason) (x y z : MachineState) (t u w : ℕ) → ReachesWithin most x y t u ADDR (Asking s bytes at to) →
    ReachesWithin bound_of_address y z u w GSTOP (OperandStop (view y) reason) →
    ReachesWithin (most + bound_of_address) x z t w GSTOP (StoppedBy s reason)
operand_stop s bytes at to most reason x y z t u w c d =
    comes_as (most + bound_of_address) (StoppedBy s reason)
    (comes_on most 38 c d refl) (omega arith) (λ v a. rejected_stops s bytes at reason (view y) v c.holds.holds a)
