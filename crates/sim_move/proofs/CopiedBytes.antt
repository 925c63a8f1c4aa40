-- A byte that LOAD and STORE copy, as the definition has it.
use Rattle.std.proofs.Common.{ℕ, ◌%◌, ◌+◌, ◌-◌, ◌<◌, ◌==◌, ◌∙◌, ◌≡◌, ◌≤◌, ap, arith, Bool, if◌then◌else◌, List, refl, slice_index, slice_set}
use Rattle.std.proofs.Common.{subst, suc, sym}
use Rattle.std.proofs.lemmas.Bool.{eqb-false, eqb-true, le-ltb, lt-ltb}
use Rattle.std.proofs.Math.Nat.{pos_of_ne-zero}
use Rattle.sim_rows.proofs.Common.{byte_from, byte_in, Changes, ReachesWithin, comes_as, COPY, Cpu, difference_of, From, FromGrom, FromMemory, GplState}
use Rattle.sim_rows.proofs.Common.{grom_at}
use Rattle.sim_rows.proofs.Common.{GromState, idle_grom, ports_are_idle, idle_video, is_view, IsFetched, LoadsFrom, MachineState, bound_of_byte}
use Rattle.sim_rows.proofs.Common.{next_from, next_in_grom, next_to, pick, Place, place_in, place_is, previous-next, Space}
use Rattle.sim_rows.proofs.Common.{space_small, state_of, sum_of, To, ToMemory, ToRegisters, Vdp, View, view, with_byte_to, Word}
use Rattle.sim_move.specs.Copying.{Copying, InGrom, HoldsSource, HoldsTarget}
use Rattle.sim_move.proofs.Routines.{idle_after, Counted, grom_after, source_in, target_in}
use Rattle.sim_move.proofs.Places.{copying_by_routines}
use Rattle.sim_move.specs.Bytes.{AllCopied, AtByte, AtCopy, AtEnd, ByRoutines, charged, Copied, CopiesAt, CopiesByte, CopyingAt, CopyingByRoutines, FromPlace}
use Rattle.sim_move.specs.Bytes.{OutOfGrom}
use Rattle.sim_rows.specs.native_interp.declared.addresses.TheConstants.{COPYE}

-- ---- the machine after a byte

fetched_after : (from : From) (g : GromState) → IsFetched g → IsFetched (grom_after from g)
fetched_after (FromMemory place) g f = f
fetched_after (FromGrom address) g f = ap (slice_index g.image) (sym (previous-next (next_in_grom address)))

one_less : (n : ℕ) → 0 < n → n < 65536 → difference_of Word n 1 ≡ n - 1
one_less n some fits = omega arith

one_more : (n left most : ℕ) → 0 < left → n + left ≤ most → most < 65536 → sum_of Word n 1 + (left - 1) ≤ most
one_more n left most some le fits = omega arith

-- ---- the source and the target by the registers

near_source : (v : View) (place : Place) → LoadsFrom place v → source_in v ≡ FromMemory place
near_source v place f =
    let small : v.r.r5 < 2 = space_small place.space v.r.r5 f.space in
    rw (lt-ltb v.r.r5 2 small, f.space, f.address) (ap FromMemory (place_is place))

far_source : (c : Changes) (v : View) (address : ℕ) → InGrom c address v → source_in v ≡ FromGrom address
far_source c v address f =
    let e = f.space in
    let above : 2 ≤ v.r.r5 = omega arith in
    rw (le-ltb v.r.r5 2 above, f.grom) (ap FromGrom (previous-next address))

pub source_is : (c : Changes) (from : From) (v : View) → HoldsSource c from v → source_in v ≡ from
source_is c (FromMemory place) v f = near_source v place f.loads_from
source_is c (FromGrom address) v f = far_source c v address f

pub target_is : (to : To) (v : View) → HoldsTarget to v → target_in v ≡ to
target_is (ToMemory place) v f =
    let small : v.r.r8 < 2 = space_small place.space v.r.r8 f.space in
    rw (lt-ltb v.r.r8 2 small, f.space, f.address) (ap ToMemory (place_is place))
target_is (ToRegisters number) v f =
    let e = f.space in
    let above : 2 ≤ v.r.r8 = omega arith in
    ap (λ b. if b then ToMemory (place_in v.r.r8 v.r.r7) else ToRegisters v.r.r7) (le-ltb v.r.r8 2 above)
    ∙ ap ToRegisters f.number_is

-- ---- the byte

in_space : (space : Space) (address : ℕ) (s o : GplState) → s.cells ≡ o.cells → s.vdp ≡ o.vdp → byte_in space s address ≡ byte_in space o address
in_space Cpu address s o a d = ap (λ (l : List ℕ). slice_index l address) a
in_space Vdp address s o a d = ap (λ (l : List ℕ). slice_index l (address % 16384)) d

grom_image : (c : Changes) (from : From) (v : View) → HoldsSource c from v → v.grom.image ≡ c.state.image
grom_image c (FromMemory place) v f = ap (λ (g : GromState). g.image) f.grom
grom_image c (FromGrom address) v f = ap (λ (g : GromState). g.image) f.grom

byte_is : (from : From) (s o : GplState) → s.cells ≡ o.cells → s.vdp ≡ o.vdp → s.image ≡ o.image → byte_from from s ≡ byte_from from o
byte_is (FromMemory place) s o a d i = in_space place.space place.address s o a d
byte_is (FromGrom address) s o a d i = ap (λ (l : List ℕ). slice_index l address) i

-- ---- where the copy stands then

next_source : (c after : Changes) (from : From) (v w : View) → HoldsSource c from v → after.state.image ≡ c.state.image → after.state.pc ≡ c.state.pc →
    w.r.r2 ≡ sum_of Word v.r.r2 1 → w.r.r5 ≡ v.r.r5 → w.r.r14 ≡ v.r.r14 → w.grom ≡ grom_after from v.grom → HoldsSource after (next_from from) w
next_source c after (FromMemory place) v w f i p r2 r5 r14 g = record {
  loads_from = record { address = r2 ∙ ap (λ n. sum_of Word n 1) f.loads_from.address; space = r5 ∙ f.loads_from.space };
  grom = g ∙ f.grom ∙ ap (λ (l : List ℕ). grom_at l c.state.pc) (sym i) ∙ ap (λ n. grom_at after.state.image n) (sym p);
}
next_source c after (FromGrom address) v w f i p r2 r5 r14 g = record {
  space = r5 ∙ f.space;
  grom = g ∙ ap (λ (o : GromState). grom_at o.image (next_in_grom address)) f.grom ∙ ap (λ (l : List ℕ). grom_at l (next_in_grom address)) (sym i);
  back = r14 ∙ f.back ∙ sym p;
}

next_number : (number : ℕ) → number < 8 → sum_of Word number 1 ≡ number + 1
next_number number h = omega arith

one_left : (n bytes : ℕ) → n ≡ suc bytes → n - 1 ≡ bytes
one_left n bytes e = omega arith

-- none is left of a copy by the routines
pub all_made : (c : Changes) (from : From) (to : To) (v : View) → Copying c from to 0 v → Copied c v
all_made c from to v k = by from k.holds_source
  where
    by : (from : From) → HoldsSource c from v → Copied c v
    by (FromMemory place) f =
        FromPlace (space_small place.space v.r.r5 f.loads_from.space)
        (record { cells = k.cells; vdp = k.vdp; registers = k.registers; held = k.held; grom = f.grom; mark = k.mark })
    by (FromGrom address) f =
        OutOfGrom f.space f.back address
        (record { cells = k.cells; vdp = k.vdp; registers = k.registers; held = k.held; grom = f.grom; mark = k.mark })

-- ---- on the machine

module _ {x y : MachineState} {t u : ℕ} (h : AtCopy x) (here : x.cpu.pc ≡ COPY) (some : ByRoutines (view x))
    (goes : ReachesWithin bound_of_byte x y t u y.cpu.pc (Counted (view x))) (there : y.cpu.pc ≡ (if (view y).r.r12 == 0 then COPYE else COPY)) where
  abbrev v : View
  v = view x

  abbrev w : View
  w = view y

  left_is : w.r.r12 ≡ v.r.r12 - 1
  left_is = ap (λ (u : View). u.r.r12) goes.holds.is ∙ one_less v.r.r12 some.some ((is_view x h.is_at.machine).r 12)

  bounded : (most before after : ℕ) → most < 65536 → before + v.r.r12 ≤ most → after ≡ sum_of Word before 1 → after + w.r.r12 ≤ most
  bounded most before after fits le is =
      subst (λ (n : ℕ). n + w.r.r12 ≤ most) (sym is) (subst (λ (n : ℕ). sum_of Word before 1 + n ≤ most) (sym left_is)
      (one_more before v.r.r12 most some.some le fits))

  next : 0 < w.r.r12 → ByRoutines w
  next more = record {
    bytes_are = ap (λ (u : View). u.r.r3) goes.holds.is ∙ some.bytes_are;
    some = more;
    source = λ z. bounded 194 v.r.r2 w.r.r2 (omega arith) (some.source (sym (ap (λ (u : View). u.r.r5) goes.holds.is) ∙ z))
        (ap (λ (u : View). u.r.r2) goes.holds.is);
    beyond = let same = ap (λ (u : View). u.r.r8) goes.holds.is in let b = some.beyond in omega arith;
    registers = bounded 8 v.r.r7 w.r.r7 (omega arith) some.registers (ap (λ (u : View). u.r.r7) goes.holds.is);
    fetched = subst IsFetched (sym (ap (λ (u : View). u.grom) goes.holds.is)) (fetched_after (source_in v) v.grom some.fetched);
  }

  -- a byte more of the copy
  copied_one : (c : Changes) (from : From) (to : To) (bytes : ℕ) → Copying c from to (suc bytes) v →
      Copying (with_byte_to to (byte_from from c.state) c) (next_from from) (next_to to) bytes w
  copied_one c from (ToMemory place) bytes k =
      let small : v.r.r8 < 2 = space_small place.space v.r.r8 k.holds_target.space in
      absurd (let above = some.beyond in omega arith)
  copied_one c from (ToRegisters number) bytes k =
      let byte : ℕ = byte_from from c.state in
      let source = source_is c from v k.holds_source in
      let read : byte_from (source_in v) (state_of v) ≡ byte =
      ap (λ (f : From). byte_from f (state_of v)) source
      ∙ byte_is from (state_of v) c.state k.cells k.vdp (grom_image c from v k.holds_source) in
      let is = k.holds_target.number_is in
      let small : number < 8 = let le = some.registers in let s = some.some in omega arith in
      record {
        cells = ap (λ (u : View). u.cells) goes.holds.is ∙ k.cells;
        vdp = ap (λ (u : View). u.vdp.memory) goes.holds.is ∙ k.vdp;
        registers =
            ap (λ (u : View). u.vdp.registers) goes.holds.is
            ∙ ap (λ (n : ℕ). slice_set v.vdp.registers v.r.r7 n) read
            ∙ ap (λ (n : ℕ). slice_set v.vdp.registers n byte) is
            ∙ ap (λ (l : List ℕ). slice_set l number byte) k.registers;
        held = ap (λ (u : View). u.vdp.held) goes.holds.is ∙ k.held;
        mark = ap (λ (u : View). u.r.r13) goes.holds.is ∙ k.mark;
        holds_source = next_source c (with_byte_to (ToRegisters number) byte c) from v w k.holds_source refl refl
            (ap (λ (u : View). u.r.r2) goes.holds.is) (ap (λ (u : View). u.r.r5) goes.holds.is)
            (ap (λ (u : View). u.r.r14) goes.holds.is)
            (ap (λ (u : View). u.grom) goes.holds.is ∙ ap (λ (f : From). grom_after f v.grom) source);
        holds_target = record {
          number_is = ap (λ (u : View). u.r.r7) goes.holds.is ∙ ap (λ n. sum_of Word n 1) is ∙ next_number number small;
          space = ap (λ (u : View). u.r.r8) goes.holds.is ∙ k.holds_target.space;
        };
        left = left_is ∙ one_left v.r.r12 bytes k.left;
      }

  abbrev to : Bool → ℕ
  to none = if none then COPYE else COPY

  place : CopiesAt y.cpu.pc w
  place =
      pick (w.r.r12 == 0)
      (λ c. AtEnd (there ∙ ap to c) (eqb-true w.r.r12 0 c))
      (λ c. AtByte (there ∙ ap to c) (next (pos_of_ne-zero (eqb-false w.r.r12 0 c))))

  copying : (c : Changes) (from : From) (o : To) (bytes : ℕ) → Copying c from o bytes w → CopyingAt y.cpu.pc c from o bytes w
  copying c from o bytes k =
      pick (w.r.r12 == 0)
      (λ z. let none : bytes ≡ 0 = sym k.left ∙ eqb-true w.r.r12 0 z in
      AllCopied (there ∙ ap to z) none (all_made c from o w (subst (λ (n : ℕ). Copying c from o n w) none k)))
      (λ z. CopyingByRoutines (there ∙ ap to z) k)

  pub copies : CopiesByte x y t u
  copies = record {
    at = record {
      is_at = goes.is_at;
      place = place;
      idle = ports_are_idle y.cpu.memory (ap (λ (u : View). u.vdp.held) goes.holds.is ∙ idle_video x.cpu.memory h.idle)
          (ap (λ (u : View). u.grom.half_written) goes.holds.is ∙ idle_after (source_in v) v.grom (idle_grom x.cpu.memory h.idle));
    };
    left = left_is;
    most = bound_of_byte;
    comes = comes_as bound_of_byte (λ (u : View). Unit {0}) goes (omega arith) (λ u q. tt);
    within = let none : charged x.cpu.pc ≡ 0 = ap charged here in omega arith;
    copies = λ c from o bytes k. copying (with_byte_to o (byte_from from c.state) c) (next_from from) (next_to o) bytes
        (copied_one c from o bytes (copying_by_routines k here));
  }
