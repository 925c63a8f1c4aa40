-- The copy as a whole, and its end.
use Rattle.std.proofs.Common.{ℕ, ◌*◌, ◌+◌, ◌<◌, ◌==◌, ◌∙◌, ◌≡◌, ◌≤◌, ap, arith, Bool, false, if◌then◌else◌, refl, subst, sym, true}
use Rattle.std.proofs.lemmas.Bool.{ne_eqb}
use Rattle.sim_rows.proofs.Common.{ShowsChanges, Changes, ReachesWithin, comes, comes_as, comes_on, comes_then, copied, EndsRow, Exit, Exits, From, GromState}
use Rattle.sim_rows.proofs.Common.{idle_again}
use Rattle.sim_rows.proofs.Common.{idle_grom, ports_are_idle, idle_video, is_turn_end, is_view, MachineState, PortsAreIdle, RESUME, SeesFinished, SHOW}
use Rattle.sim_rows.proofs.Common.{IsAt, To, View, view, with_pc}
use Rattle.sim_jumps.specs.Jumps.{ResumesRow}
use Rattle.sim_move.specs.Copying.{CopiesBytes, Copying, MayCopy}
use Rattle.sim_move.proofs.Places.{at_end, at_pc, runs_on}
use Rattle.sim_move.proofs.Routines.{fetched_seen}
use Rattle.sim_move.proofs.CopyStart.{Starts, starts}
use Rattle.sim_move.specs.Bytes.{AtCopy, charged, CopiesAt, CopiesRest, CopyingAt, EndsCopy, FromPlace, OutOfGrom}
use Rattle.sim_move.specs.CopyPieces as pieces
use Rattle.sim_rows.specs.native_interp.declared.addresses.TheConstants.{COPYE}

-- ---- the end

pub ended_at : {x : MachineState} → AtCopy x → (view x).r.r12 ≡ 0 → IsAt x COPYE
ended_at {x = x} h none = subst (λ (p : ℕ). IsAt x p) (at_end x.cpu.pc (view x) h.place none) h.is_at

-- where it goes on, by the space of the source
abbrev left_for : ℕ → ℕ
left_for space = if space == 2 then RESUME else SHOW

near_end : (space : ℕ) → space < 2 → left_for space ≡ SHOW
near_end space small = ap (λ b. if b then RESUME else SHOW) (ne_eqb space 2 (λ e. omega arith))

few : (out_of_grom : Bool) → (if out_of_grom then 2 else 3) ≤ 3
few true = omega arith
few false = omega arith

module _ {x a : MachineState} {t t1 : ℕ} (h : AtCopy x) (e : Exits x a t t1 (pieces.leave_copy (view x))) where
  abbrev v : View
  v = view x

  pub idle_ended : PortsAreIdle a.cpu.memory
  idle_ended = idle_again x.cpu.memory a.cpu.memory (ap (λ (u : View). u.vdp) e.shows) (ap (λ (u : View). u.grom) e.shows) h.idle

  led : (to : ℕ) → left_for v.r.r5 ≡ to → ReachesWithin 3 x a t t1 to (λ u. u ≡ v)
  led to is = comes e (record { within = few (v.r.r5 == 2); to_is = is; holds = refl })

  module _ (y : MachineState) (t2 : ℕ) where
    pub ends_memory : a.cpu.pc ≡ SHOW → EndsRow a y t1 t2 → EndsCopy x y t t2
    ends_memory here row c (FromPlace near k) =
        let changed : ShowsChanges c (view a) = subst (λ (u : View). ShowsChanges c u) (sym e.shows) k in
        comes_as 34 (SeesFinished c) (comes_on 3 28 (led SHOW (near_end v.r.r5 near)) (row c changed) refl) (omega arith) (λ w q. q)
    ends_memory here row c (OutOfGrom space back next k) = absurd (let p = e.is_at.pc in let r = ap left_for space in omega arith)

    pub ends_grom : (a.cpu.pc ≡ SHOW → ⊥) → ResumesRow a y t1 t2 → EndsCopy x y t t2
    ends_grom elsewhere row c (FromPlace near k) = absurd (elsewhere (e.is_at.pc ∙ near_end v.r.r5 near))
    ends_grom elsewhere row c (OutOfGrom space back next k) =
        let changed : ShowsChanges (with_pc next c) (view a) = subst (λ (u : View). ShowsChanges (with_pc next c) u) (sym e.shows) k in
        comes_on 3 31 (led RESUME (ap left_for space)) (row c next changed (ap (λ (u : View). u.r.r14) e.shows ∙ back)) refl

-- ---- the whole

module _ {x a : MachineState} {t t1 : ℕ} (e : Exits x a t t1 (pieces.start_copy (view x))) (may : MayCopy x) where
  begun : Starts (view x) (pieces.start_copy (view x))
  begun =
      starts (view x) (is_view x may.is_at.machine) (idle_video x.cpu.memory may.idle) (fetched_seen x.cpu.memory may.fetched)
      may.source may.target may.registers

  pub at_copy : AtCopy a
  at_copy = record {
    is_at = at_pc a (pieces.start_copy (view x)).to e.is_at;
    place = subst (λ (p : ℕ). CopiesAt p (view a)) (sym e.is_at.pc)
        (subst (λ (u : View). CopiesAt (pieces.start_copy (view x)).to u) (sym e.shows) begun.place);
    idle = ports_are_idle a.cpu.memory (ap (λ (u : View). u.vdp.held) e.shows ∙ begun.held)
        (ap (λ (u : View). u.grom.half_written) e.shows ∙ ap (λ (g : GromState). g.half_written) begun.grom ∙ idle_grom x.cpu.memory may.idle);
  }

  copying : (c : Changes) (from : From) (to : To) (bytes : ℕ) → Copying c from to bytes (view x) → CopyingAt a.cpu.pc c from to bytes (view a)
  copying c from to bytes k =
      subst (λ (p : ℕ). CopyingAt p c from to bytes (view a)) (sym e.is_at.pc)
      (subst (λ (u : View). CopyingAt (pieces.start_copy (view x)).to c from to bytes u) (sym e.shows) (begun.copying c from to bytes k))

  pub copies_bytes : (b y : MachineState) (t2 t3 : ℕ) → CopiesRest a b t1 t2 → EndsCopy b y t2 t3 → CopiesBytes x y t t3
  copies_bytes b y t2 t3 rest end c from to bytes k =
      let whole : Changes = copied bytes from to c in
      let left : (view a).r.r12 ≡ bytes = ap (λ (u : View). u.r.r12) e.shows ∙ begun.left ∙ k.left in
      let count : ℕ = (pieces.start_copy (view x)).count in
      let runs : is_turn_end (pieces.start_copy (view x)).to ≡ false = ap is_turn_end (sym e.is_at.pc) ∙ runs_on a.cpu.pc (view a) at_copy.place in
      let start : ReachesWithin count x a t t1 (pieces.start_copy (view x)).to (λ w. Unit {0}) =
      comes e (record { within = omega arith; to_is = refl; holds = tt }) in
      let c2 = comes_on count rest.most start rest.comes runs in
      let few : count ≤ 7 + charged a.cpu.pc = subst (λ (p : ℕ). count ≤ 7 + charged p) (sym e.is_at.pc) begun.few in
      let within : rest.most + charged a.cpu.pc ≤ 31 * bytes =
      subst (λ (n : ℕ). rest.most + charged a.cpu.pc ≤ 31 * n) left rest.within in
      comes_as (31 * bytes + 41) (SeesFinished whole)
      (comes_on (count + rest.most) 34 c2 (end whole (rest.copies c from to bytes (copying c from to bytes k) left)) refl) (omega arith) (λ w q. q)
