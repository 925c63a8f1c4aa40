-- Runs of the view in parts: a piece is proved part by part, each up to the next test.
use Rattle.std.proofs.Common.{◌≡◌, ℕ, zero, suc, ◌+◌, List, Bool, true, false, refl, sym, ap, ◌∙◌, arith}
use Rattle.sim_view.specs.Prelude.{Exit, Status, View, WORKSPACE}
use Rattle.tms_defs.specs.Accesses.{Answer, Gives, NoInstruction, ◌>>=◌}
use Rattle.tms_defs.specs.Operand.{Cpu}
use Rattle.tms_defs.specs.Step.{execution}
use Rattle.sim_view.specs.Running.{ends_piece}
use Rattle.sim_view.proofs.Answers.{given, given_by}
use Rattle.sim_view.proofs.Seen.{seen_run, shown}
use Rattle.sim_view.proofs.Bridge.{Leads, at, but_status}

-- So many steps, none of which ends the piece.
abbrev pub seen_part : List ℕ → ℕ → Cpu View → Answer (Cpu View)
seen_part ends zero x = Gives x
seen_part ends (suc count) x =
    execution View shown x >>= λ done.
    elim (ends_piece ends done.0 done.1.pc) [ true ↦ NoInstruction | false ↦ seen_part ends count done.1 ]

abbrev pub seen_place : Answer (Cpu View) → Answer (View × ℕ × ℕ)
seen_place a = a >>= λ x. Gives (x.memory, x.pc, x.wp)

-- So many steps lead from one view and address to others, whatever the status bits are.
pub record Part (ends : List ℕ) (count : ℕ) (v : View) (p : ℕ) (w : View) (q : ℕ) : Type 0 where
  pub by : (f : Status) → seen_place (seen_part ends count (at v f p)) ≡ Gives (w, q, WORKSPACE)

-- The rest of a run, where some instructions were made and there is room for them.
pub record Rest (ends : List ℕ) (made most : ℕ) (v : View) (p : ℕ) (e : Exit) : Type 0 where
  pub by : (f : Status) → but_status (seen_run ends made most (at v f p)) ≡ Gives (e.count, e.left, e.to, WORKSPACE)

guarded : (b : Bool) (a : Answer (Cpu View)) (z : Cpu View) → elim b [ true ↦ NoInstruction | false ↦ a ] ≡ Gives z → (b ≡ false) × (a ≡ Gives z)
guarded true a z e = absurd (cc)
guarded false a z e = (refl, e)

-- what the run makes of a step
abbrev goes_on : List ℕ → ℕ → ℕ → ℕ × Cpu View → Answer (ℕ × Cpu View)
goes_on ends made most done =
    elim (ends_piece ends done.0 done.1.pc) [ true ↦ Gives (suc made, done.1) | false ↦ seen_run ends (suc made) most done.1 ]

after_part : (ends : List ℕ) (count made most : ℕ) (x y : Cpu View) → seen_part ends count x ≡ Gives y →
    seen_run ends made (count + most) x ≡ seen_run ends (made + count) most y
after_part ends zero made most x y e =
    let n : zero + most ≡ most = omega arith in let m : made + zero ≡ made = omega arith in
    rw (n, m) (ap (λ (u : Cpu View). seen_run ends made most u) (given x y e))
after_part ends (suc count) made most x y e =
    let n : suc count + most ≡ suc (count + most) = omega arith in
    let m : made + suc count ≡ suc made + count = omega arith in
    let g = given_by (execution View shown x) (λ done. elim (ends_piece ends done.0 done.1.pc) [ true ↦ NoInstruction | false ↦ seen_part ends count done.1 ])
    y e in
    let h = guarded (ends_piece ends g.0.0 g.0.1.pc) (seen_part ends count g.0.1) y g.2 in
    let F : Answer (ℕ × Cpu View) → Answer (ℕ × Cpu View) = λ a. a >>= goes_on ends made (count + most) in
    ap (λ (k : ℕ). seen_run ends made k x) n ∙ ap F g.1 ∙ rw (h.0, goes_on) (after_part ends count (suc made) most g.0.1 y h.1)
    ∙ ap (λ (k : ℕ). seen_run ends k most y) (sym m)

rebuilt : (y : Cpu View) (w : View) (q : ℕ) → y.memory ≡ w → y.pc ≡ q → y.wp ≡ WORKSPACE → y ≡ at w y.status q
rebuilt y w q a b c = rw (← a, ← b, ← c) refl

-- A part, and then the rest.
pub part_then : (ends : List ℕ) (count made most : ℕ) {v w : View} {p q : ℕ} {e : Exit} → Part ends count v p w q →
    Rest ends (made + count) most w q e → Rest ends made (count + most) v p e
part_then ends count made most {v = v} {w = w} {p = p} {q = q} {e = e} part rest = record {
  by = λ f.
      let g = given_by (seen_part ends count (at v f p)) (λ x. Gives (x.memory, x.pc, x.wp)) (w, q, WORKSPACE) (part.by f) in
      let t = given (g.0.memory, g.0.pc, g.0.wp) (w, q, WORKSPACE) g.2 in
      let is : g.0 ≡ at w g.0.status q = rebuilt g.0 w q (ap (λ (u : View × ℕ × ℕ). u.0) t) (ap (λ (u : View × ℕ × ℕ). u.1) t)
      (ap (λ (u : View × ℕ × ℕ). u.2) t) in
      ap but_status (after_part ends count made most (at v f p) g.0 g.1 ∙ ap (λ (u : Cpu View). seen_run ends (made + count) most u) is) ∙ rest.by g.0.status;
}

pub leads : (ends : List ℕ) {v : View} {p : ℕ} {e : Exit} → Rest ends 0 16 v p e → Leads ends v p e
leads ends rest = record { by = λ f q. rest.by f }
