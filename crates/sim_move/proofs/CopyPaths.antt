-- A byte on a way.
use Rattle.std.proofs.Common.{ℕ, ◌%◌, ◌+◌, ◌-◌, ◌<◌, ◌==◌, ◌∙◌, ◌≡◌, ◌≤◌, ap, arith, Bool, false, if◌then◌else◌, None, refl, slice_index, subst, suc, sym}
use Rattle.std.proofs.lemmas.Bool.{eqb-false, eqb-true}
use Rattle.std.proofs.Math.Nat.{pos_of_ne-zero}
use Rattle.sim_rows.proofs.Common.{byte_from, ShowsChanges, Changes, comes, copied, difference_of, Exits, From, idle_grom, ports_are_idle, idle_video, is_view}
use Rattle.sim_rows.proofs.Common.{MachineState, marked_by, next_from, next_in_grom, next_in_vdp, next_to, pick, plus, sum_of, To, View, view, with_byte_to}
use Rattle.sim_rows.proofs.Common.{high, join, low, vdp_data_written, VdpState, with_pc, with_video_address, Word}
use Rattle.sim_move.proofs.Places.{at_pc, each, few_charged, may_go, on_way, some_left}
use Rattle.sim_move.specs.Bytes.{AllCopied, AtCopy, AtEnd, AtHead, Copied, CopiesAt, CopiesByte, CopyingAt, CopyingOnWay, from_on, FromPlace, GoesBack, MayGo}
use Rattle.sim_move.specs.Bytes.{OnWay, OutOfGrom, Points, seen, seen_on, to_on}
use Rattle.sim_move.specs.CopyPieces.{CellsToCells, CellsToVideo, copy_on, count_on, first_cell, GromToCells, GromToVideo}
use Rattle.sim_move.specs.CopyPieces.{head_of, reading_word, VideoToCells, VideoToVideo, CopyPath, writing_word}
use Rattle.sim_rows.specs.native_interp.declared.addresses.TheConstants.{COPYE}
use Rattle.sim_rows.proofs.StepStart.{one_at_most}
use Rattle.sim_move.proofs.VideoPort.{reading_on, reads_at, writes_at, writing_on}
use Rattle.sim_rows.specs.sim_operands.Pieces.{past_video}

-- ---- what may go on

points_on : (pointer bytes : ℕ) → Points pointer bytes → 0 < difference_of Word bytes 1 → Points (sum_of Word pointer 1) (difference_of Word bytes 1)
points_on pointer bytes p more =
    let from = p.from in
    let within = p.within in
    let some = p.some in
    record { from = omega arith; within = omega arith; some = more }

goes_on : (way : CopyPath) (v : View) → MayGo way v → 0 < difference_of Word v.r.r12 1 → MayGo way (copy_on way v).left
goes_on CellsToCells v k more = (points_on v.r.r2 v.r.r12 k.0 more, points_on v.r.r7 v.r.r12 k.1 more)
goes_on CellsToVideo v k more = points_on v.r.r2 v.r.r12 k more
goes_on GromToVideo v k more = more
goes_on VideoToVideo v k more = more
goes_on _ v k more = points_on v.r.r7 v.r.r12 k more

place_on : (way : CopyPath) (v : View) → MayGo way v → CopiesAt (copy_on way v).to (copy_on way v).left
place_on way v k =
    let left = difference_of Word v.r.r12 1 in
    let to : Bool → ℕ = λ b. if b then COPYE else head_of way in
    pick (left == 0)
    (λ c. AtEnd (ap to c) (eqb-true left 0 c))
    (λ c. AtHead way (ap to c) (goes_on way v k (pos_of_ne-zero (eqb-false left 0 c))))

held_on : (way : CopyPath) (v : View) → v.vdp.held ≡ None → (copy_on way v).left.vdp.held ≡ None
held_on way v e = each (λ way. (copy_on way v).left.vdp.held ≡ None) e refl e refl refl refl way

idle_on : (way : CopyPath) (v : View) → v.grom.half_written ≡ false → (copy_on way v).left.grom.half_written ≡ false
idle_on way v e = each (λ way. (copy_on way v).left.grom.half_written ≡ false) e e refl e refl e way

-- ---- what is seen then

-- the address of the next byte
abbrev next_on : CopyPath → ℕ → ℕ
next_on GromToCells address = next_in_grom address
next_on GromToVideo address = next_in_grom address
next_on _ address = plus address 1

next_from_on : (way : CopyPath) (address : ℕ) → next_from (from_on way address) ≡ from_on way (next_on way address)
next_from_on way address =
    each (λ way. next_from (from_on way address) ≡ from_on way (next_on way address)) refl refl refl refl refl refl way

next_to_on : (way : CopyPath) (address : ℕ) → next_to (to_on way address) ≡ to_on way (plus address 1)
next_to_on way address =
    each (λ way. next_to (to_on way address) ≡ to_on way (plus address 1)) refl refl refl refl refl refl way

-- A byte of this source and target, after other changes; video memory keeps the byte as the one fetched.
abbrev byte_on : CopyPath → Changes → ℕ → ℕ
byte_on way c source = byte_from (from_on way source) c.state

abbrev more_on : CopyPath → Changes → ℕ → ℕ → Changes
more_on way c source target = with_byte_to (to_on way target) (byte_on way c source) c

abbrev with_fetched : ℕ → View → View
with_fetched byte v = record v { vdp = record v.vdp { fetched = byte } }

abbrev base_on : CopyPath → View → Changes → ℕ → ℕ → View
base_on CellsToVideo v c source target = with_fetched (byte_on CellsToVideo c source) v
base_on GromToVideo v c source target = with_fetched (byte_on GromToVideo c source) v
base_on VideoToVideo v c source target =
    record v {
      r = record v.r { r4 = join (byte_on VideoToVideo c source) (low v.r.r4) };
      vdp = record v.vdp { address = next_in_vdp (target % 16384); fetched = byte_on VideoToVideo c source };
    }
base_on _ v c source target = v

back_on : (way : CopyPath) (v : View) (c : Changes) (source target : ℕ) → GoesBack c (from_on way source) v →
    GoesBack (more_on way c source target) (next_from (from_on way source)) (base_on way v c source target)
back_on way v c source target =
    each (λ way. GoesBack c (from_on way source) v
    → GoesBack (more_on way c source target) (next_from (from_on way source)) (base_on way v c source target))
    (λ g. g) (λ g. g) (λ g. g) (λ g. g) (λ g. g) (λ g. g) way

one_less : (n : ℕ) → n < 65535 → difference_of Word (suc n) 1 ≡ n
one_less n fits = omega arith

pointer_on : (address bytes : ℕ) → Points (first_cell + address) (suc bytes) →
    (sum_of Word (first_cell + address) 1 ≡ first_cell + plus address 1) × (first_cell + address - first_cell ≡ address)
pointer_on address bytes p = let within = p.within in (omega arith, omega arith)

video_on : (address : ℕ) → next_in_vdp (address % 16384) ≡ plus address 1 % 16384
video_on address = omega arith

-- within video memory
high_kept : (byte word : ℕ) → high (join byte (low word)) ≡ byte
high_kept byte word = omega arith

moves_in_video : (v : View) (c : Changes) (bytes mark source target : ℕ) → bytes < 65535 →
    (copy_on VideoToVideo (seen_on VideoToVideo v c (suc bytes) mark source target)).left
    ≡ seen_on VideoToVideo (base_on VideoToVideo v c source target) (more_on VideoToVideo c source target) bytes mark
    (plus source 1) (plus target 1)
moves_in_video v c bytes mark source target fits =
    let s : View = seen_on VideoToVideo v c (suc bytes) mark source target in
    let byte : ℕ = byte_on VideoToVideo c source in
    let kept : ℕ → ℕ = λ n. join n (low v.r.r4) in
    let at : ℕ = sum_of Word (target % 16384) 0x4000 in
    let read : VdpState = record s.vdp { address = next_in_vdp (source % 16384); fetched = byte } in
    let set : VdpState = record (past_video read) { address = target % 16384 } in
    let left : VdpState → ℕ → ℕ → ℕ → ℕ → View =
    λ d r2 r4 r7 r12. record s { r = record s.r { r2 = r2; r4 = r4; r7 = r7; r12 = r12 }; vdp = d } in
    let gone : ℕ → ℕ → ℕ → View = λ r2 r7 r12. left (vdp_data_written set byte) r2 (kept byte) r7 r12 in
    let from : ℕ = reading_word (sum_of Word (source % 16384) 1) in
    let to : ℕ = writing_word (sum_of Word at 1) in
    let less : ℕ = difference_of Word (suc bytes) 1 in
    ap (λ (d : VdpState). left (vdp_data_written (with_video_address at (past_video d)) (high (kept d.fetched)))
    from (kept d.fetched) to less) (reads_at s.vdp (source % 16384) refl (omega arith))
    ∙ ap (λ (d : VdpState). left (vdp_data_written d (high (kept byte))) from (kept byte) to less)
    (writes_at (past_video read) (target % 16384) refl (omega arith))
    ∙ ap (λ n. left (vdp_data_written set n) from (kept byte) to less) (high_kept byte v.r.r4)
    ∙ ap (λ n. gone n to less) (reading_on source)
    ∙ ap (λ n. gone (plus source 1 % 16384) n less) (writing_on target)
    ∙ ap (gone (plus source 1 % 16384) (sum_of Word (plus target 1 % 16384) 0x4000)) (one_less bytes fits)

moves_on : (way : CopyPath) (v : View) (c : Changes) (bytes mark source target : ℕ) → bytes < 65535 → MayGo way (seen_on way v c (suc bytes) mark source target) →
    (copy_on way (seen_on way v c (suc bytes) mark source target)).left
    ≡ seen_on way (base_on way v c source target) (more_on way c source target) bytes mark (next_on way source)
    (plus target 1)
moves_on CellsToCells v c bytes mark source target fits k =
    let s = pointer_on source bytes k.0 in
    let t = pointer_on target bytes k.1 in
    rw (one_less bytes fits, s.0, s.1, t.0, t.1) refl
moves_on VideoToCells v c bytes mark source target fits k =
    let t = pointer_on target bytes k in rw (one_less bytes fits, t.0, t.1, video_on source) refl
moves_on GromToCells v c bytes mark source target fits k =
    let t = pointer_on target bytes k in rw (one_less bytes fits, t.0, t.1) refl
moves_on CellsToVideo v c bytes mark source target fits k =
    let s = pointer_on source bytes k in rw (one_less bytes fits, s.0, s.1, video_on target) refl
moves_on GromToVideo v c bytes mark source target fits k = rw (one_less bytes fits, video_on target) refl
moves_on VideoToVideo v c bytes mark source target fits k = moves_in_video v c bytes mark source target fits

-- all bytes are copied
seen_changed : (v : View) (c : Changes) (bytes source target address byte next : ℕ) →
    ShowsChanges (with_pc next c) (seen v c bytes (marked_by c.shows 0) source target address byte next)
seen_changed v c bytes source target address byte next =
    record { cells = refl; vdp = refl; registers = refl; held = refl; grom = refl; mark = refl }

copied_on : (way : CopyPath) (v : View) (c : Changes) (source target : ℕ) → GoesBack c (from_on way source) v →
    Copied c (seen_on way v c 0 (marked_by c.shows 0) source target)
copied_on CellsToCells v c source target g =
    FromPlace g (seen_changed v c 0 (first_cell + source) (first_cell + target) v.vdp.address v.vdp.fetched c.state.pc)
copied_on VideoToCells v c source target g =
    let at = source % 16384 in FromPlace g (seen_changed v c 0 v.r.r2 (first_cell + target) (next_in_vdp at) (slice_index c.state.vdp at) c.state.pc)
copied_on GromToCells v c source target g =
    OutOfGrom g.0 g.1 source (seen_changed v c 0 v.r.r2 (first_cell + target) v.vdp.address v.vdp.fetched source)
copied_on CellsToVideo v c source target g =
    FromPlace g (seen_changed v c 0 (first_cell + source) v.r.r7 (target % 16384) v.vdp.fetched c.state.pc)
copied_on VideoToVideo v c source target g =
    let at = sum_of Word (target % 16384) 0x4000 in
    FromPlace g (seen_changed v c 0 (source % 16384) at v.vdp.address v.vdp.fetched c.state.pc)
copied_on GromToVideo v c source target g = OutOfGrom g.0 g.1 source (seen_changed v c 0 v.r.r2 v.r.r7 (target % 16384) v.vdp.fetched source)

bytes_on : (way : CopyPath) (v : View) (c : Changes) (bytes mark source target : ℕ) → (seen_on way v c bytes mark source target).r.r12 ≡ bytes
bytes_on way v c bytes mark source target =
    each (λ way. (seen_on way v c bytes mark source target).r.r12 ≡ bytes) refl refl refl refl refl refl way

-- ---- on the machine

few_on : (way : CopyPath) → count_on way ≤ 13
few_on =
    each (λ way. count_on way ≤ 13) (omega arith) (omega arith) (omega arith) (omega arith) (omega arith) (omega arith)

one_down : (n : ℕ) → 0 < n → n < 65536 → difference_of Word n 1 ≡ n - 1
one_down n some fits = omega arith

module _ {x : MachineState} (h : AtCopy x) (way : CopyPath) (here : x.cpu.pc ≡ head_of way) where
  abbrev v : View
  v = view x

  pub may : MayGo way v
  may = may_go h.place way here

  few : v.r.r12 < 65536
  few = (is_view x h.is_at.machine).r 12

  module _ {y : MachineState} {t u : ℕ} (e : Exits x y t u (copy_on way v)) where
    -- a byte from a source to a target by the path
    goes : (c : Changes) (bytes : ℕ) (base : View) (source target : ℕ) → GoesBack c (from_on way source) base →
        v ≡ seen_on way base c (suc bytes) (marked_by (copied (suc bytes) (from_on way source) (to_on way target) c).shows 0) source target →
        CopyingAt y.cpu.pc (more_on way c source target) (next_from (from_on way source)) (next_to (to_on way target)) bytes (view y)
    goes c bytes base source target back is =
        let mark = marked_by (copied (suc bytes) (from_on way source) (to_on way target) c).shows 0 in
        let count : v.r.r12 ≡ suc bytes = ap (λ (w : View). w.r.r12) is ∙ bytes_on way base c (suc bytes) mark source target in
        let fits : bytes < 65535 = let f = few in omega arith in
        let left : difference_of Word v.r.r12 1 ≡ bytes = ap (λ n. difference_of Word n 1) count ∙ one_less bytes fits in
        let after = more_on way c source target in
        let next : View = base_on way base c source target in
        let seen_after : view y ≡ seen_on way next after bytes mark (next_on way source) (plus target 1) =
        e.shows ∙ ap (λ (w : View). (copy_on way w).left) is
        ∙ moves_on way base c bytes mark source target fits (subst (λ (w : View). MayGo way w) is may) in
        let pc : y.cpu.pc ≡ (if bytes == 0 then COPYE else head_of way) = e.is_at.pc ∙ ap (λ n. if n == 0 then COPYE else head_of way) left in
        let to : Bool → ℕ = λ b. if b then COPYE else head_of way in
        pick (bytes == 0)
        (λ z. let none : bytes ≡ 0 = eqb-true bytes 0 z in
        AllCopied (pc ∙ ap to z) none (subst (λ (w : View). Copied after w) (sym seen_after)
        (ended bytes none c source target base back)))
        (λ z. CopyingOnWay way (pc ∙ ap to z) (record {
          base = base_on way base c source target;
          source = next_on way source;
          target = plus target 1;
          from_is = next_from_on way source;
          to_is = next_to_on way target;
          back = back_on way base c source target back;
          is = seen_after;
        }))
      where
        ended : (n : ℕ) → n ≡ 0 → (c : Changes) (source target : ℕ) (base : View) → GoesBack c (from_on way source) base →
            Copied (more_on way c source target) (seen_on way (base_on way base c source target)
            (more_on way c source target) n
            (marked_by (copied n (next_from (from_on way source)) (next_to (to_on way target)) (more_on way c source target)).shows 0)
            (next_on way source) (plus target 1))
        ended n none c source target base back =
            let after = more_on way c source target in
            subst (λ (k : ℕ). Copied after (seen_on way (base_on way base c source target) after k
            (marked_by (copied k (next_from (from_on way source)) (next_to (to_on way target)) after).shows 0) (next_on way source) (plus target 1)))
            (sym none)
            (copied_on way (base_on way base c source target) after (next_on way source) (plus target 1)
            (subst (λ (f : From). GoesBack after f (base_on way base c source target)) (next_from_on way source)
            (back_on way base c source target back)))

    goes_on_way : (c : Changes) (from : From) (to : To) (bytes : ℕ) → OnWay way c from to (suc bytes) v →
        CopyingAt y.cpu.pc (with_byte_to to (byte_from from c.state) c) (next_from from) (next_to to) bytes (view y)
    goes_on_way c from to bytes w =
        let P : From → To → Type 0 = λ f o. GoesBack c f w.base
        → v ≡ seen_on way w.base c (suc bytes) (marked_by (copied (suc bytes) f o c).shows 0) w.source w.target
        → CopyingAt y.cpu.pc (with_byte_to o (byte_from f c.state) c) (next_from f) (next_to o) bytes (view y) in
        (subst (λ (f : From). P f to) (sym w.from_is) (subst (λ (o : To). P (from_on way w.source) o) (sym w.to_is)
        (λ g i. goes c bytes w.base w.source w.target g i))) w.back w.is

    pub copies : CopiesByte x y t u
    copies = record {
      at = record {
        is_at = at_pc y (copy_on way v).to e.is_at;
        place = subst (λ (p : ℕ). CopiesAt p (view y)) (sym e.is_at.pc)
            (subst (λ (w : View). CopiesAt (copy_on way v).to w) (sym e.shows) (place_on way v may));
        idle = ports_are_idle y.cpu.memory (ap (λ (w : View). w.vdp.held) e.shows ∙ held_on way v (idle_video x.cpu.memory h.idle))
            (ap (λ (w : View). w.grom.half_written) e.shows ∙ idle_on way v (idle_grom x.cpu.memory h.idle));
      };
      left = ap (λ (w : View). w.r.r12) e.shows ∙ one_down v.r.r12 (some_left way v may) few;
      most = 14;
      comes = comes e (record {
        within = let m = few_on way in let a = one_at_most (difference_of Word v.r.r12 1 == 0) in omega arith;
        to_is = sym e.is_at.pc;
        holds = tt;
      });
      within = let a = few_charged x.cpu.pc in omega arith;
      copies = λ c from to bytes k. goes_on_way c from to bytes (on_way k way here);
    }
