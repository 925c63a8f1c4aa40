-- STORE and LOAD: which pieces they are, and what they mean for GPL, on views alone.
use Rattle.std.proofs.Common.{ℕ, ◌<◌, ◌==◌, ◌∙◌, ◌≡◌, ap, arith, false, nat_lt, None, refl, subst, sym}
use Rattle.std.proofs.lemmas.Bool.{eqb-false, eqb-true, lt-ltb, ne_eqb}
use Rattle.sim_view.proofs.Common.{Byte, comes, Exit, Exits, Goes, is_view, IsFetched, MachineState, pick, PortsAreIdle}
use Rattle.sim_view.proofs.Common.{unchanged, View, view, with_register}
use Rattle.sim_view.specs.Prelude.{is_turn_end, IsMachine}
use Rattle.sim_view.specs.Routines.{◌>>◌}
use Rattle.sim_operands.specs.Pieces.{return_of}
use Rattle.sim_operands.specs.Values.{of_register}
use Rattle.sim_operands.specs.Subroutines.{grom_at, LoadsStream, LoadsValue, next_at, state_of, Stored, StoresRegister}
use Rattle.sim_operands.specs.Subroutines.{StoresValue, streamed}
use Rattle.sim_operands.specs.Routines.{CanLoad, CanStore, load, load_pieces, store, store_pieces}
use Rattle.sim_operands.proofs.Ready.{idle_video, ready}
use Rattle.sim_operands.specs.Pieces as pieces
use Rattle.sim_operands.proofs.Transfers as transfers

-- ---- the pieces change what the routine says

store_is : (v : View) → store_pieces v ≡ store v
unfolding store_pieces
store_is v =
    pick (v.r.r8 == 1)
    (λ a. pick (v.r.r3 == 1) (λ b. rw (a, b) refl) (λ b. rw (a, b) refl))
    (λ a. pick (nat_lt 1 v.r.r8) (λ b. rw (a, b) refl)
    (λ b. pick (v.r.r3 == 1) (λ c. rw (a, b, c) refl) (λ c. rw (a, b, c) refl)))

load_is : (v : View) → load_pieces v ≡ load v
unfolding load_pieces
load_is v =
    pick (v.r.r5 == 1)
    (λ a. pick (v.r.r3 == 1) (λ b. rw (a, b) refl) (λ b. rw (a, b) refl))
    (λ a. pick (nat_lt 1 v.r.r5) (λ b. pick (v.r.r3 == 1) (λ c. rw (a, b, c) refl) (λ c. rw (a, b, c) refl))
    (λ b. pick (v.r.r3 == 1) (λ c. rw (a, b, c) refl) (λ c. rw (a, b, c) refl)))

-- ---- which pieces they are

not_one : (n : ℕ) → 1 < n → (n == 1) ≡ false
not_one n more = ne_eqb n 1 (λ e. omega arith)

pub store_in_video : (v : View) → v.r.r8 ≡ 1 → (pieces.store v >> pieces.store_video) ≡ store v
unfolding store_pieces
store_in_video v e =
    let way : (pieces.store v >> pieces.store_video) ≡ store_pieces v = rw e refl in way ∙ store_is v

pub store_in_register : (v : View) → 1 < v.r.r8 → (pieces.store v >> pieces.store_register) ≡ store v
unfolding store_pieces
store_in_register v e =
    let way : (pieces.store v >> pieces.store_register) ≡ store_pieces v =
    rw (not_one v.r.r8 e, lt-ltb 1 v.r.r8 e) refl in way ∙ store_is v

pub store_in_cells : (v : View) → v.r.r8 ≡ 0 → pieces.store v ≡ store v
unfolding store_pieces
store_in_cells v e = let way : pieces.store v ≡ store_pieces v = rw e refl in way ∙ store_is v

pub load_of_video : (v : View) → v.r.r5 ≡ 1 → (pieces.load v >> pieces.load_video) ≡ load v
unfolding load_pieces
load_of_video v e = let way : (pieces.load v >> pieces.load_video) ≡ load_pieces v = rw e refl in way ∙ load_is v

pub load_of_stream : (v : View) → 1 < v.r.r5 → (pieces.load v >> pieces.stream) ≡ load v
unfolding load_pieces
load_of_stream v e =
    let way : (pieces.load v >> pieces.stream) ≡ load_pieces v =
    rw (not_one v.r.r5 e, lt-ltb 1 v.r.r5 e) refl in way ∙ load_is v

pub load_of_cells : (v : View) → v.r.r5 ≡ 0 → pieces.load v ≡ load v
unfolding load_pieces
load_of_cells v e = let way : pieces.load v ≡ load_pieces v = rw e refl in way ∙ load_is v

-- where they go on is no end of the interpreter
pub asks_video : (v : View) → v.r.r8 ≡ 1 → is_turn_end (pieces.store v).to ≡ false
asks_video v e = rw e refl

pub asks_register : (v : View) → 1 < v.r.r8 → is_turn_end (pieces.store v).to ≡ false
asks_register v e = rw (not_one v.r.r8 e, lt-ltb 1 v.r.r8 e) refl

pub asks_video_value : (v : View) → v.r.r5 ≡ 1 → is_turn_end (pieces.load v).to ≡ false
asks_video_value v e = rw e refl

pub asks_stream : (v : View) → 1 < v.r.r5 → is_turn_end (pieces.load v).to ≡ false
asks_stream v e = rw (not_one v.r.r5 e, lt-ltb 1 v.r.r5 e) refl

-- ---- what they mean for GPL

pub store_goes : (v : View) → v.vdp.held ≡ None → v.r.r8 < 2 → v.r.r7 < 65536 → CanStore v →
    Goes (store v) 15 (return_of v) (transfers.stored_by v)
store_goes v held small fits can =
    let by : Exit → Type 0 = λ e. Goes e 15 (return_of v) (transfers.stored_by v) in
    pick (v.r.r8 == 1)
    (λ a. let count = ap (λ (e : Exit). e.count) (transfers.store_sets v a held fits) in
    let g = transfers.store_video v (pieces.store v).left a held fits refl in
    let w = g.within in
    subst by (store_in_video v (eqb-true v.r.r8 1 a))
    (record { within = omega arith; to_is = g.to_is; holds = g.holds }))
    (λ a. let other = eqb-false v.r.r8 1 a in
    let none : v.r.r8 ≡ 0 = omega arith in
    subst by (store_in_cells v none) (transfers.store_cells v none can))

pub register_goes : (v : View) → v.vdp.held ≡ None → 1 < v.r.r8 → v.r.r7 < 8 →
    Goes (store v) 9 (return_of v) (Stored v (with_register v.r.r7 (of_register Byte v.r.r9) (unchanged (state_of v))))
register_goes v held large number =
    let by : Exit → Type 0 =
    λ e. Goes e 9 (return_of v) (Stored v (with_register v.r.r7 (of_register Byte v.r.r9) (unchanged (state_of v)))) in
    let g = transfers.store_register v held number in
    let w = g.within in
    subst by (store_in_register v large)
    (subst (λ (e : Exit). by (e >> pieces.store_register)) (sym (transfers.stores_on v (lt-ltb 1 v.r.r8 large)))
    (record { within = omega arith; to_is = g.to_is; holds = g.holds }))

pub load_goes : (v : View) → v.vdp.held ≡ None → v.r.r5 < 2 → v.r.r2 < 65536 → CanLoad v →
    Goes (load v) 15 (return_of v) (transfers.loaded_by v)
load_goes v held small fits can =
    let by : Exit → Type 0 = λ e. Goes e 15 (return_of v) (transfers.loaded_by v) in
    pick (v.r.r5 == 1)
    (λ a. let count = ap (λ (e : Exit). e.count) (transfers.load_sets v a held fits) in
    let g = transfers.load_video v (pieces.load v).left a held fits refl in
    let w = g.within in
    subst by (load_of_video v (eqb-true v.r.r5 1 a))
    (record { within = omega arith; to_is = g.to_is; holds = g.holds }))
    (λ a. let other = eqb-false v.r.r5 1 a in
    let none : v.r.r5 ≡ 0 = omega arith in
    subst by (load_of_cells v none) (transfers.load_cells v none can))

pub stream_goes : (v : View) → 1 < v.r.r5 → v.grom ≡ grom_at v.grom.image (next_at v) →
    Goes (load v) 10 (return_of v) (λ w. w ≡ streamed v)
stream_goes v large is =
    let by : Exit → Type 0 = λ e. Goes e 10 (return_of v) (λ w. w ≡ streamed v) in
    let g = transfers.streams v is in
    let w = g.within in
    subst by (load_of_stream v large)
    (subst (λ (e : Exit). by (e >> pieces.stream)) (sym (transfers.goes_on v (lt-ltb 1 v.r.r5 large)))
    (record { within = omega arith; to_is = g.to_is; holds = g.holds }))

-- ---- the same of a machine whose ports are idle

module _ {x : MachineState} (machine : IsMachine x) (idle : PortsAreIdle x.cpu.memory) where
  abbrev v : View
  v = view x

  module _ {y : MachineState} {s t : ℕ} where
    pub stores_value : CanStore v → v.r.r8 < 2 → Exits x y s t (store v) → StoresValue x y s t
    stores_value can small e =
        comes e (store_goes v (idle_video x.cpu.memory idle) small ((is_view x machine).r 7) can)

    pub stores_register : 1 < v.r.r8 → v.r.r7 < 8 → Exits x y s t (store v) → StoresRegister x y s t
    stores_register large number e = comes e (register_goes v (idle_video x.cpu.memory idle) large number)

    pub loads_value : CanLoad v → v.r.r5 < 2 → Exits x y s t (load v) → LoadsValue x y s t
    loads_value can small e = comes e (load_goes v (idle_video x.cpu.memory idle) small ((is_view x machine).r 2) can)

    pub loads_stream : 1 < v.r.r5 → IsFetched x.cpu.memory.grom → Exits x y s t (load v) → LoadsStream x y s t
    loads_stream large fetched e = comes e (stream_goes v large (ready x.cpu.memory idle fetched))
