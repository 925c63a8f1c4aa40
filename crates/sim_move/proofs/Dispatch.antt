-- MOVE from its dispatch to the end of the step.
use Rattle.std.proofs.Common.{ℕ, ◌*◌, ◌+◌, ◌≡◌, ap, arith, Err, false, None, Ok, refl, Some, subst, sym, true}
use Rattle.sim_rows.proofs.Common.{bound, bound_stop, Changes, comes_on, fetched_of, finished, From, FromGrom, FromMemory, GOMOVE, GplState, grom_at, GSTOP}
use Rattle.sim_rows.proofs.Common.{idle_of, is_exit, is_turn_end, MachineState, matches, bound_to_dispatch, Move, MOVEB, MoveKind, Moving, never_exits}
use Rattle.sim_rows.proofs.Common.{number_of, operation_in, reaches, ReachesWithin, Reason, StoppedBy}
use Rattle.sim_rows.proofs.Common.{from_dispatch, ShowsState, IsAt, Stepped, Stopped, stops, Turned, turned_by, View, view, WORKSPACE}
use Rattle.sim_move.specs.Copying.{CopiesBytes, MayCopy, HoldsSource}
use Rattle.sim_move.specs.Family.{is_move}
use Rattle.sim_move.specs.Moves.{BeforeCopy, begun, FindsCopy, found_in, source_read, target_read}
use Rattle.sim_move.proofs.Arrivals.{came, Comes, stopped}
use Rattle.sim_move.proofs.Copies.{kind_of}
use Rattle.sim_move.proofs.Ranges.{SourceInRange, registers_there, source_in_range, source_visible, target_in_range, target_visible, TargetInRange}
use Rattle.sim_move.proofs.MoveSteps.{bound_is, made, parts, step_copies, step_stops}

-- where GROM is before the first byte
abbrev place_in_grom : Changes → From → ℕ
place_in_grom c (FromMemory place) = c.state.pc
place_in_grom c (FromGrom address) = address

grom_of : (c : Changes) (from : From) (w : View) → HoldsSource c from w → w.grom ≡ grom_at c.state.image (place_in_grom c from)
grom_of c (FromMemory place) w h = h.grom
grom_of c (FromGrom address) w h = h.grom

sees_of : (kind : MoveKind) (s : GplState) (f : Moving) (w : View) → BeforeCopy kind s f w → ShowsState s (place_in_grom (begun kind s) f.from) w
sees_of kind s f w h = record { cells = h.cells; vdp = h.vdp; registers = h.registers; held = h.held; grom = grom_of (begun kind s) f.from w h.holds_source }

module _ (s : GplState) {x a : MachineState} {t t1 : ℕ} (is_at : IsAt x GOMOVE) (family : is_move (operation_in s) ≡ true) (finds : FindsCopy s x a t t1)
  where
    kind : MoveKind
    kind = (kind_of (operation_in s) family).0

    known : operation_in s ≡ Some (Move kind)
    unfolding kind
    known = (kind_of (operation_in s) family).1

    start : is_turn_end x.cpu.pc ≡ false
    start = ap is_turn_end is_at.pc

    arrives : Comes 160 s x a t t1 MOVEB (BeforeCopy kind s) (found_in kind s)
    arrives = record { by = finds.by kind known }

    -- a check fails
    module _ (here : a.cpu.pc ≡ GSTOP) where
      m : (reason : Reason) × (found_in kind s ≡ Err reason) × ReachesWithin 160 x a t t1 GSTOP (StoppedBy s reason)
      m = stopped (found_in kind s) arrives refl here

      pub workspace : a.cpu.wp ≡ WORKSPACE
      workspace = m.2.is_at.wp

      -- some reason has the number in register 0
      pub has_reason : ((reason : Reason) → number_of reason ≡ (view a).r.r0 → None ≡ Some reason) → ⊥
      has_reason none = let e = none m.0 (sym m.2.holds.reason_is) in absurd (cc)

      pub stops_by : (given : Reason) → ((reason : Reason) → number_of reason ≡ (view a).r.r0 → Some given ≡ Some reason) →
          Turned s x a (from_dispatch t t1) (Stopped given)
      stops_by given is =
          let e = step_stops s kind known m.0 m.1 in
          let b = bound_stop s m.0 e in
          let is_some = is m.0 (sym m.2.holds.reason_is) in
          let same : given ≡ m.0 = cc in
          let P : Reason → Type 0 = λ r. Turned s x a (from_dispatch t t1) (Stopped r) in
          subst P (sym same)
          (turned_by x a t t1 bound_to_dispatch (Stopped m.0) s (Err m.0) e
          (refl, reaches bound_to_dispatch (bound s) m.2 start refl (omega arith), stops s m.0 a (never_exits s m.0 (ap is_exit known) e) m.2.is_at m.2.holds))

    -- all is found
    module _ (away : a.cpu.pc ≡ GSTOP → ⊥) where
      g : (found : Moving) × (found_in kind s ≡ Ok found) × ReachesWithin 160 x a t t1 MOVEB (BeforeCopy kind s found)
      g = came (found_in kind s) arrives away

      target_range : TargetInRange g.0.bytes g.0.to
      target_range = target_in_range s g.0.bytes (target_read kind s).0 g.0.to (parts s kind g.0 g.1).target

      source_range : SourceInRange g.0.bytes g.0.from
      source_range = source_in_range s g.0.bytes (source_read kind s).0 g.0.from (parts s kind g.0 g.1).source

      pub may_copy : MayCopy a
      may_copy =
          let h = g.2.holds in
          let at = place_in_grom (begun kind s) g.0.from in
          let sees = sees_of kind s g.0 (view a) h in
          record {
            is_at = g.2.is_at;
            idle = idle_of a.cpu.memory s at sees;
            fetched = fetched_of a.cpu.memory s at sees;
            source = source_visible g.0.bytes (begun kind s) g.0.from (view a) h.holds_source h.left source_range;
            target = target_visible g.0.bytes g.0.to (view a) h.holds_target h.left target_range;
            registers = registers_there g.0.bytes g.0.to (view a) h.holds_target h.left target_range;
          }

      pub turned : {y : MachineState} {t2 : ℕ} → CopiesBytes a y t1 t2 → Turned s x y (from_dispatch t t2) Stepped
      turned {y = y} {t2 = t2} copies =
          let bytes = g.0.bytes in
          let next = finished (made s kind g.0) in
          let c = comes_on 160 (31 * bytes + 41) g.2 (copies (begun kind s) g.0.from g.0.to bytes g.2.holds) refl in
          let e = step_copies s kind known g.0 g.1 in
          let b = bound_is s kind known g.0 g.1 in
          turned_by x y t t2 bound_to_dispatch Stepped s (Ok next) e (refl, reaches bound_to_dispatch (bound s) c start refl (omega arith), matches next y c.is_at c.holds)
