-- A byte that LOAD and STORE copy.
use Rattle.std.proofs.Common.{ℕ, ◌<◌, ◌==◌, ◌∙◌, ◌≡◌, ap, arith, Bool, false, if◌then◌else◌, List, nat_lt, not, refl}
use Rattle.std.proofs.Common.{slice_set, subst, sym}
use Rattle.std.proofs.lemmas.Bool.{ltb-false, ltb-true}
use Rattle.sim_rows.proofs.Common.{byte_from, Changes, ReachesWithin, comes, comes_as, comes_on, comes_then, COPY, COPYN, COPYS, difference_of, Exits, From}
use Rattle.sim_rows.proofs.Common.{FromGrom, FromMemory, grom_at, GromState, high, idle_again, idle_grom, ports_are_idle, idle_video, in_register}
use Rattle.sim_rows.proofs.Common.{IsFetched, IsVisible, join, LOAD, Loaded, LoadsStream, LoadsValue, MachineState, Memory, bound_of_byte}
use Rattle.sim_rows.proofs.Common.{bound_of_load, next_at, next_in_grom, pick, Place, place_in, PortsAreIdle, return_of}
use Rattle.sim_rows.proofs.Common.{IsAt, state_of, STORE, Stored, StoresRegister, streamed, sum_of, To, ToMemory, ToRegisters, unchanged}
use Rattle.sim_rows.proofs.Common.{value_at, View, view, view_of, width_in, with_register, Word}
use Rattle.sim_rows.specs.gpl_defs.Reading.{value_at as value_in}
use Rattle.sim_move.specs.Bytes.{AtCopy, ByRoutines}
use Rattle.sim_rows.specs.sim_view.Bounds.{bound_of_register_store}
use Rattle.sim_move.specs.CopyPieces as pieces
use Rattle.sim_rows.specs.native_interp.declared.addresses.TheConstants.{COPYE}

-- ---- what a byte changes

-- The source by registers 2 and 5, and the target by registers 7 and 8.
abbrev pub source_in : View → From
source_in v = if nat_lt v.r.r5 2 then FromMemory (place_in v.r.r5 v.r.r2) else FromGrom (next_at v)

abbrev pub target_in : View → To
target_in v = if nat_lt v.r.r8 2 then ToMemory (place_in v.r.r8 v.r.r7) else ToRegisters v.r.r7

-- GROM after a byte of a source: only one that lies in GROM moves it.
abbrev pub grom_after : From → GromState → GromState
grom_after (FromMemory place) grom = grom
grom_after (FromGrom address) grom = grom_at grom.image (next_in_grom address)

-- the registers of the video processor with a byte of the source in the one with the number in register 7
abbrev pub registers_with : View → List ℕ
registers_with v = slice_set v.vdp.registers v.r.r7 (byte_from (source_in v) (state_of v))

-- That is changed, and the source, the target and the count have gone on. Registers 4, 6, 9 and 11, and the address of
-- the video processor with the byte there, may have changed.
pub record Counted (v w : View) : Type 0 where
  pub r4 : ℕ
  pub r6 : ℕ
  pub r9 : ℕ
  pub r11 : ℕ
  pub address : ℕ
  pub byte : ℕ
  pub is : w ≡ record v {
    r = record v.r {
      r2 = sum_of Word v.r.r2 1;
      r4 = r4;
      r6 = r6;
      r7 = sum_of Word v.r.r7 1;
      r9 = r9;
      r11 = r11;
      r12 = difference_of Word v.r.r12 1;
    };
    vdp = record v.vdp { registers = registers_with v; address = address; fetched = byte };
    grom = grom_after (source_in v) v.grom;
  }

-- the machine's GROM and its view agree on whether a byte is fetched
pub fetched_seen : (m : Memory) → IsFetched m.grom → IsFetched (view_of m).grom
unfolding view_of
fetched_seen m f = f

fetched_by_view : (m : Memory) (g : GromState) → (view_of m).grom ≡ g → IsFetched g → IsFetched m.grom
unfolding view_of
fetched_by_view m g e f = subst IsFetched (sym e) f

-- ---- LOAD

-- A byte in register 6, and where GROM stands; register 4 and the address of the video processor may have changed.
pub record Read (v : View) (number : ℕ) (grom : GromState) (w : View) : Type 0 where
  pub r4 : ℕ
  pub address : ℕ
  pub byte : ℕ
  pub is : w ≡ record v {
    r = record v.r { r4 = r4; r6 = join number 0 };
    vdp = record v.vdp { address = address; fetched = byte };
    grom = grom;
  }

abbrev pub ReadFrom : View → From → View → Type 0
ReadFrom v from w = Read v (byte_from from (state_of v)) (grom_after from v.grom) w

value_read : (v w : View) (place : Place) → v.r.r3 ≡ 1 → Loaded v (value_at (state_of v) (width_in v.r.r3) place) w → ReadFrom v (FromMemory place) w
value_read v w place one l =
    let left : ℕ → View = λ n. record v {
      r = record v.r { r4 = l.r4; r6 = in_register (width_in n) (value_at (state_of v) (width_in n) place) };
      vdp = record v.vdp { address = l.address; fetched = l.byte };
    } in
    record { r4 = l.r4; address = l.address; byte = l.byte; is = l.is ∙ ap left one }

stream_read : (v w : View) → v.r.r3 ≡ 1 → w ≡ streamed v → ReadFrom v (FromGrom (next_at v)) w
stream_read v w one e =
    let read : ℕ → ℕ × ℕ = λ n. value_in (not (n == 1)) v.grom.image (next_at v) in
    let left : ℕ → View = λ n. record v { r = record v.r { r6 = in_register (width_in n) (read n).0 }; grom = grom_at v.grom.image (read n).1 } in
    record { r4 = v.r.r4; address = v.vdp.address; byte = v.vdp.fetched; is = e ∙ ap left one }

loads : (a b : MachineState) (t u : ℕ) → (view a).r.r3 ≡ 1 → IsFetched a.cpu.memory.grom → ((view a).r.r5 < 2 → LoadsValue a b t u) →
    (1 < (view a).r.r5 → IsFetched a.cpu.memory.grom → LoadsStream a b t u)
    → ReachesWithin bound_of_load a b t u (return_of (view a)) (ReadFrom (view a) (source_in (view a)))
loads a b t u one fetched near far =
    let v : View = view a in
    let place : Place = place_in v.r.r5 v.r.r2 in
    let to : Bool → Type 0 = λ c. ReachesWithin bound_of_load a b t u (return_of v) (ReadFrom v (if c then FromMemory place else FromGrom (next_at v))) in
    pick (nat_lt v.r.r5 2)
    (λ c. subst to (sym c) (comes_as 15 (ReadFrom v (FromMemory place)) (near (ltb-true v.r.r5 2 c)) (omega arith) (λ w l. value_read v w place one l)))
    (λ c. let above : 1 < v.r.r5 = let le = ltb-false v.r.r5 2 c in omega arith in
    subst to (sym c) (comes_as 15 (ReadFrom v (FromGrom (next_at v))) (far above fetched) (omega arith) (λ w l. stream_read v w one l)))

-- GROM stays idle
pub idle_after : (from : From) (g : GromState) → g.half_written ≡ false → (grom_after from g).half_written ≡ false
idle_after (FromMemory place) g e = e
idle_after (FromGrom address) g e = refl

-- ---- STORE

-- what the high byte of register 9 changes
abbrev pub stored_in : View → Changes
stored_in v = with_register v.r.r7 (high v.r.r9) (unchanged (state_of v))

high_of : (number : ℕ) → high (join number 0) ≡ number
high_of number = omega arith

-- ---- the pieces

-- LOAD is asked where bytes are left
abbrev asked : View → View
asked v = record v { r = record v.r { r11 = COPYS } }

module _ {x a : MachineState} {t t1 : ℕ} (h : AtCopy x) (left : ByRoutines (view x)) (e : Exits x a t t1 (pieces.next_byte (view x))) where
  abbrev v : View
  v = view x

  pub idle_asked : PortsAreIdle a.cpu.memory
  idle_asked = idle_again x.cpu.memory a.cpu.memory (ap (λ (u : View). u.vdp) e.shows) (ap (λ (u : View). u.grom) e.shows) h.idle

  fetched_asked : IsFetched a.cpu.memory.grom
  fetched_asked = fetched_by_view a.cpu.memory v.grom (ap (λ (u : View). u.grom) e.shows) left.fetched

  pub visible_asked : IsVisible (view a).r.r5 (view a).r.r2 (view a).r.r3
  visible_asked =
      let near : IsVisible v.r.r5 v.r.r2 1 = λ z. let some = left.some in let le = left.source z in omega arith in
      subst (λ (u : View). IsVisible u.r.r5 u.r.r2 u.r.r3) (sym e.shows) (subst (λ (n : ℕ). IsVisible v.r.r5 v.r.r2 n) (sym left.bytes_are) near)

  one_asked : (view a).r.r3 ≡ 1
  one_asked = ap (λ (u : View). u.r.r3) e.shows ∙ left.bytes_are

  module _ {b : MachineState} {t2 : ℕ} (near : (view a).r.r5 < 2 → LoadsValue a b t1 t2) (far : 1 < (view a).r.r5 → IsFetched a.cpu.memory.grom →
      LoadsStream a b t1 t2) where
    loaded : ReachesWithin bound_of_load a b t1 t2 COPYS (ReadFrom (view a) (source_in (view a)))
    loaded = subst (λ (p : ℕ). ReachesWithin bound_of_load a b t1 t2 p (ReadFrom (view a) (source_in (view a)))) (ap return_of e.shows)
        (loads a b t1 t2 one_asked fetched_asked near far)

    pub at_read : IsAt b COPYS
    at_read = loaded.is_at

    abbrev number : ℕ
    number = byte_from (source_in v) (state_of v)

    abbrev read_of : View → View
    read_of u =
        record u {
          r = record u.r { r4 = loaded.holds.r4; r6 = join (byte_from (source_in u) (state_of u)) 0 };
          vdp = record u.vdp { address = loaded.holds.address; fetched = loaded.holds.byte };
          grom = grom_after (source_in u) u.grom;
        }

    abbrev at_b : View
    at_b = read_of (asked v)

    module _ {d : MachineState} {t3 : ℕ} (e3 : Exits b d t2 t3 (pieces.store_byte (view b))) where
      abbrev at_d : View
      at_d = (pieces.store_byte at_b).left

      seen_d : view d ≡ at_d
      seen_d = e3.shows ∙ ap (λ (u : View). (pieces.store_byte u).left) (loaded.holds.is ∙ ap read_of e.shows)

      pub idle_storing : PortsAreIdle d.cpu.memory
      idle_storing =
          ports_are_idle d.cpu.memory (ap (λ (u : View). u.vdp.held) seen_d ∙ idle_video x.cpu.memory h.idle)
          (ap (λ (u : View). u.grom.half_written) seen_d ∙ idle_after (source_in v) v.grom (idle_grom x.cpu.memory h.idle))

      pub visible_storing : IsVisible (view d).r.r8 (view d).r.r7 (view d).r.r3
      visible_storing =
          let near : IsVisible v.r.r8 v.r.r7 1 = λ z. let b = left.beyond in absurd (omega arith) in
          subst (λ (u : View). IsVisible u.r.r8 u.r.r7 u.r.r3) (sym seen_d) (subst (λ (n : ℕ). IsVisible v.r.r8 v.r.r7 n) (sym left.bytes_are) near)

      beyond : 1 < (view d).r.r8
      beyond = subst (λ (u : View). 1 < u.r.r8) (sym seen_d) left.beyond

      there : (view d).r.r7 < 8
      there =
          let some = left.some in
          let le = left.registers in
          subst (λ (u : View). u.r.r7 < 8) (sym seen_d) (omega arith)

      module _ {k : MachineState} {t4 : ℕ}
          (register : 1 < (view d).r.r8 → (view d).r.r7 < 8 → StoresRegister d k t3 t4) where
        stored : ReachesWithin bound_of_register_store d k t3 t4 COPYN (Stored (view d) (stored_in (view d)))
        stored =
            let after : View → Type 0 = Stored (view d) (stored_in (view d)) in
            subst (λ (p : ℕ). ReachesWithin bound_of_register_store d k t3 t4 p after) (ap return_of seen_d)
            (register beyond there)

        pub at_stored : IsAt k COPYN
        at_stored = stored.is_at

        -- the view after COPYN, where a byte was stored
        abbrev counted_with : View → ℕ → View
        counted_with u byte =
            (pieces.count_byte (record u {
              r = record u.r { r4 = stored.holds.r4 };
              vdp = record u.vdp {
                registers = slice_set u.vdp.registers u.r.r7 byte;
                address = stored.holds.address;
                fetched = stored.holds.byte;
              };
            })).left

        module _ {y : MachineState} {t5 : ℕ} (e5 : Exits k y t4 t5 (pieces.count_byte (view k))) where
          seen_y : view y ≡ counted_with at_d number
          seen_y =
              e5.shows
              ∙ ap (λ (u : View). (pieces.count_byte u).left) stored.holds.is
              ∙ ap (λ (u : View). counted_with u (high u.r.r9)) seen_d
              ∙ ap (counted_with at_d) (high_of number)

          counted : Counted v (view y)
          counted =
              record {
                r4 = stored.holds.r4;
                r6 = join number 0;
                r9 = join number 0;
                r11 = COPYN;
                address = stored.holds.address;
                byte = stored.holds.byte;
                is = seen_y;
              }

          pub goes : ReachesWithin bound_of_byte x y t t5 y.cpu.pc (Counted v)
          goes =
              let c1 : ReachesWithin 1 x a t t1 LOAD (λ u. u ≡ asked v) = comes e (record { within = omega arith; to_is = refl; holds = refl }) in
              let c2 = comes_on 1 15 c1 loaded refl in
              let c3 : ReachesWithin 18 x d t t3 STORE (λ u. u ≡ (pieces.store_byte (view b)).left) =
              comes_then 16 2 c2 e3 (record { within = omega arith; to_is = refl; holds = refl }) refl in
              let c4 = comes_on 18 9 c3 stored refl in
              let holds = subst (Counted v) e5.shows counted in
              comes_then 27 4 c4 e5 (record { within = omega arith; to_is = sym e5.is_at.pc; holds = holds }) refl

          pub place_is : y.cpu.pc ≡ (if (view y).r.r12 == 0 then COPYE else COPY)
          place_is = e5.is_at.pc ∙ ap (λ (n : ℕ). if n == 0 then COPYE else COPY) (sym (ap (λ (u : View). u.r.r12) e5.shows))
