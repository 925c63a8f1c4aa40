-- Where a byte is copied.
use Rattle.std.proofs.Common.{ℕ, ◌<◌, ◌==◌, ◌∙◌, ◌≡◌, ◌≤◌, ap, arith, Bool, false, if◌then◌else◌, None, Option, refl, Some, subst, sym, true}
use Rattle.sim_rows.proofs.Common.{Changes, COPY, From, is_turn_end, MachineState, IsAt, To, View}
use Rattle.sim_move.specs.Copying.{Copying}
use Rattle.sim_move.specs.Bytes.{AllCopied, AtByte, AtEnd, AtHead, charged, Copied, CopiesAt, CopyingAt, CopyingByRoutines, CopyingOnWay, MayGo}
use Rattle.sim_move.specs.Bytes.{OnWay, Points}
use Rattle.sim_move.specs.CopyPieces.{CellsToCells, CellsToVideo, GromToCells, GromToVideo, head_of, VideoToCells}
use Rattle.sim_move.specs.CopyPieces.{VideoToVideo, CopyPath}
use Rattle.sim_rows.specs.native_interp.declared.addresses.TheConstants.{COPYCC, COPYCV, COPYE, COPYGC, COPYGV, COPYVC, COPYVV}

-- ---- the way of a place

abbrev way_at : ℕ → Option CopyPath
way_at place =
    if place == COPYCC then Some CellsToCells
    else if place == COPYVC then Some VideoToCells
    else if place == COPYGC then Some GromToCells
    else if place == COPYCV then Some CellsToVideo
    else if place == COPYGV then Some GromToVideo
    else if place == COPYVV then Some VideoToVideo
    else None

pub each : (P : CopyPath → Type 0) → P CellsToCells → P VideoToCells → P GromToCells → P CellsToVideo → P GromToVideo →
    P VideoToVideo → (way : CopyPath) → P way
each P a b c d e f CellsToCells = a
each P a b c d e f VideoToCells = b
each P a b c d e f GromToCells = c
each P a b c d e f CellsToVideo = d
each P a b c d e f GromToVideo = e
each P a b c d e f VideoToVideo = f

way_at_head : (way : CopyPath) → way_at (head_of way) ≡ Some way
way_at_head = each (λ way. way_at (head_of way) ≡ Some way) refl refl refl refl refl refl

some_is : (a b : CopyPath) → Some a ≡ Some b → a ≡ b
some_is a b e = cc

none_is : (a : CopyPath) → Some a ≡ None → ⊥
none_is a e = cc

one_way : (p : ℕ) (a b : CopyPath) → p ≡ head_of a → p ≡ head_of b → a ≡ b
one_way p a b e f = some_is a b (sym (way_at_head a) ∙ ap way_at (sym e ∙ f) ∙ way_at_head b)

no_way : (p : ℕ) (way : CopyPath) → way_at p ≡ None → p ≡ head_of way → ⊥
no_way p way n e = none_is way (sym (way_at_head way) ∙ ap way_at (sym e) ∙ n)

module _ {p : ℕ} {v : View} where
  pub may_go : CopiesAt p v → (way : CopyPath) → p ≡ head_of way → MayGo way v
  may_go (AtByte e k) way f = absurd (no_way p way (ap way_at e) f)
  may_go (AtHead a e k) way f = subst (λ (w : CopyPath). MayGo w v) (one_way p a way e f) k
  may_go (AtEnd e z) way f = absurd (no_way p way (ap way_at e) f)

  pub on_way : {c : Changes} {from : From} {to : To} {bytes : ℕ} → CopyingAt p c from to bytes v → (way : CopyPath) → p ≡ head_of way → OnWay way c from to bytes v
  on_way (CopyingByRoutines e k) way f = absurd (no_way p way (ap way_at e) f)
  on_way {c = c} {from = from} {to = to} {bytes = bytes} (CopyingOnWay a e k) way f =
      subst (λ (w : CopyPath). OnWay w c from to bytes v) (one_way p a way e f) k
  on_way (AllCopied e z k) way f = absurd (no_way p way (ap way_at e) f)

  pub copying_by_routines : {c : Changes} {from : From} {to : To} {bytes : ℕ} → CopyingAt p c from to bytes v → p ≡ COPY → Copying c from to bytes v
  copying_by_routines (CopyingByRoutines e k) f = k
  copying_by_routines (CopyingOnWay a e k) f = absurd (no_way p a (ap way_at f) e)
  copying_by_routines (AllCopied e z k) f = absurd (omega arith)

  pub all_copied : {c : Changes} {from : From} {to : To} {bytes : ℕ} → CopyingAt p c from to bytes v → p ≡ COPYE → (bytes ≡ 0) × Copied c v
  all_copied (CopyingByRoutines e k) f = absurd (omega arith)
  all_copied (CopyingOnWay a e k) f = absurd (no_way p a (ap way_at f) e)
  all_copied (AllCopied e z k) f = (z, k)

-- ---- how many bytes are left

pub some_left : (way : CopyPath) (v : View) → MayGo way v → 0 < v.r.r12
some_left way v =
    each (λ way. MayGo way v → 0 < v.r.r12) (λ k. k.0.some) (λ (k : Points v.r.r7 v.r.r12). k.some) (λ (k : Points v.r.r7 v.r.r12). k.some)
    (λ (k : Points v.r.r2 v.r.r12). k.some) (λ k. k) (λ k. k) way

-- none is left at COPYE alone
pub at_end : (p : ℕ) (v : View) → CopiesAt p v → v.r.r12 ≡ 0 → p ≡ COPYE
at_end p v (AtByte e k) z = absurd (let s = k.some in omega arith)
at_end p v (AtHead way e k) z = absurd (let s = some_left way v k in omega arith)
at_end p v (AtEnd e n) z = e

head_runs : (way : CopyPath) → is_turn_end (head_of way) ≡ false
head_runs = each (λ way. is_turn_end (head_of way) ≡ false) refl refl refl refl refl refl

pub runs_on : (p : ℕ) (v : View) → CopiesAt p v → is_turn_end p ≡ false
runs_on p v (AtByte e k) = ap is_turn_end e
runs_on p v (AtHead way e k) = ap is_turn_end e ∙ head_runs way
runs_on p v (AtEnd e z) = ap is_turn_end e

-- a machine where it is
pub at_pc : (x : MachineState) (p : ℕ) → IsAt x p → IsAt x x.cpu.pc
at_pc x p h = record { pc = refl; wp = h.wp; words = h.words; machine = h.machine }

-- ---- how many instructions

pub few_charged : (p : ℕ) → charged p ≤ 11
few_charged p = by (p == COPY) (p == COPYE)
  where
    by : (a b : Bool) → (if a then 0 else if b then 0 else 11) ≤ 11
    by true b = omega arith
    by false true = omega arith
    by false false = omega arith
