-- The bytes of the copy, one after the other.
use Rattle.std.proofs.Common.{ℕ, ◌*◌, ◌+◌, ◌<◌, ◌∙◌, ◌≡◌, ◌≤◌, ap, arith, refl, subst, suc, sym, zero}
use Rattle.sim_rows.proofs.Common.{begins, byte_from, Changes, ReachesWithin, comes_on, copied, From, MachineState, next_from, next_to, To, view, with_byte_to}
use Rattle.sim_move.proofs.Places.{all_copied, at_end, runs_on}
use Rattle.sim_move.specs.Bytes.{AtCopy, charged, Copied, CopiesByte, CopiesRest, CopyingAt}
use Rattle.sim_rows.specs.native_interp.declared.addresses.TheConstants.{COPYE}

-- What is left of a copy, of which some bytes are made: it does the same as the whole.
pub record Rest (whole : Changes) (z : MachineState) : Type 0 where
  pub changes : Changes
  pub from : From
  pub to : To
  pub bytes : ℕ
  pub left : (view z).r.r12 ≡ bytes
  pub copying : CopyingAt z.cpu.pc changes from to bytes (view z)
  pub same : copied bytes from to changes ≡ whole

pub record Turns (made : ℕ) (x z : MachineState) (t u : ℕ) : Type 0 where
  pub at : AtCopy z
  pub left : (view z).r.r12 + made ≡ (view x).r.r12
  pub most : ℕ
  pub comes : ReachesWithin most x z t u z.cpu.pc (λ v. Unit {0})
  pub within : most + charged x.cpu.pc ≤ 31 * made + charged z.cpu.pc
  pub rest : (c : Changes) → (from : From) → (to : To) → (bytes : ℕ) → CopyingAt x.cpu.pc c from to bytes (view x) → (view x).r.r12 ≡ bytes
      → Rest (copied bytes from to c) z

pub none_yet : (x : MachineState) (t : ℕ) → AtCopy x → Turns 0 x x t t
none_yet x t h = record {
  at = h;
  left = omega arith;
  most = 0;
  comes = begins x t x.cpu.pc (λ v. Unit {0}) h.is_at tt;
  within = omega arith;
  rest = λ c from to bytes k left. record { changes = c; from = from; to = to; bytes = bytes; left = left; copying = k; same = refl };
}

module _ {made : ℕ} {x z : MachineState} (y : MachineState) {t u : ℕ} (w : ℕ) (h : Turns made x z t u) (less : made < (view x).r.r12) where
  pub some_left : 0 < (view z).r.r12
  some_left = let e = h.left in omega arith

  more : (whole : Changes) → CopiesByte z y u w → Rest whole z → Rest whole y
  more whole b r = by r.bytes refl
    where
      by : (bytes : ℕ) → r.bytes ≡ bytes → Rest whole y
      by zero e = absurd (let a = some_left in let l = r.left in omega arith)
      by (suc bytes) e =
          let left = r.left in
          let less = b.left in
          record {
            changes = with_byte_to r.to (byte_from r.from r.changes.state) r.changes;
            from = next_from r.from;
            to = next_to r.to;
            bytes = bytes;
            left = omega arith;
            copying = b.copies r.changes r.from r.to bytes
                (subst (λ (n : ℕ). CopyingAt z.cpu.pc r.changes r.from r.to n (view z)) e r.copying);
            same = ap (λ (n : ℕ). copied n r.from r.to r.changes) (sym e) ∙ r.same;
          }

  pub one_more_turn : CopiesByte z y u w → Turns (made + 1) x y t w
  one_more_turn b = record {
    at = b.at;
    left = let a = b.left in let e = h.left in let s = some_left in omega arith;
    most = h.most + b.most;
    comes = comes_on h.most b.most h.comes b.comes (runs_on z.cpu.pc (view z) h.at.place);
    within = let a = h.within in let c = b.within in omega arith;
    rest = λ c from to bytes k left. more (copied bytes from to c) b (h.rest c from to bytes k left);
  }

module _ (x z : MachineState) (t u : ℕ) (h : Turns (view x).r.r12 x z t u) where
  pub none_left : (view z).r.r12 ≡ 0
  none_left = let e = h.left in omega arith

  there : z.cpu.pc ≡ COPYE
  there = at_end z.cpu.pc (view z) h.at.place none_left

  pub copies_rest : CopiesRest x z t u
  copies_rest = record {
    most = h.most;
    comes = subst (λ (p : ℕ). ReachesWithin h.most x z t u p (λ v. Unit {0})) there h.comes;
    within = let none : charged z.cpu.pc ≡ 0 = ap charged there in let a = h.within in omega arith;
    copies = λ c from to bytes k left.
        let r = h.rest c from to bytes k left in
        let last = all_copied r.copying there in
        subst (λ (d : Changes). Copied d (view z)) (ap (λ (n : ℕ). copied n r.from r.to r.changes) (sym last.0) ∙ r.same) last.1;
  }
