-- One machine is left of a program.
use Rattle.std.proofs.Common.{◌≡◌, ℕ, zero, suc, ◌+◌, ◌<◌, ◌≤◌, List, sym, ap, ◌∙◌, subst, arith}
use Rattle.std.proofs.Common.{Bool, true, false}
use Rattle.std.specs.Prelude.{eqb}
use Rattle.tms_defs.specs.Accesses.{Answer, Gives}
use Rattle.console_defs.specs.Machine.{MachineState, steps}
use Rattle.native_interp.specs.declared.addresses.TheConstants.{GSTEP}
use Rattle.gpl_step_defs.specs.State.{start}
use Rattle.gpl_step_defs.specs.Run.{turns}
use Rattle.interp_defs.specs.Runs.{is_turn_end}
use Rattle.interp_defs.specs.Turns.{Boots, IsTurn}
use Rattle.interp_defs.specs.Programs.{RunsProgram, OneMachineIsLeft}
use Rattle.interp_defs.proofs.OneBoot.{one_boot}

-- Numbers of which neither is below the other are one.
one_number : (m n : ℕ) → (m < n → ⊥) → (n < m → ⊥) → m ≡ n
one_number m n above below = omega arith

-- The machine that is given, or another one.
given_or : MachineState → Answer MachineState → MachineState
given_or other (Gives x) = x
given_or other _ = other

-- As many steps lead to one machine.
one_given : (m n : ℕ) (x y z : MachineState) → m ≡ n → steps m x ≡ Gives y → steps n x ≡ Gives z → y ≡ z
unfolding given_or
one_given m n x y z same first second = ap (given_or y) (sym first ∙ ap (λ made. steps made x) same ∙ second)

-- No test both holds and fails.
both : (test : Bool) → test ≡ true → test ≡ false → ⊥
both test holds fails = absurd (cc)

-- The program counter is where the first step begins.
at_step : (pc : ℕ) → pc ≡ GSTEP → eqb pc GSTEP ≡ true
at_step pc there = ap (λ n. eqb n GSTEP) there

-- There is one start: one number of instructions, and one machine.
one_start : (m n : ℕ) (x y z : MachineState) → Boots m x y → Boots n x z → y ≡ z
one_start m n x y z p q =
    let same : m ≡ n =
    one_number m n
    (λ earlier. both (eqb y.cpu.pc GSTEP) (at_step y.cpu.pc p.there) (q.first m earlier y p.leads))
    (λ earlier. both (eqb z.cpu.pc GSTEP) (at_step z.cpu.pc q.there) (p.first n earlier z q.leads)) in
    one_given m n x y z same p.leads q.leads

-- There is one turn from a machine.
one_turn : (m n : ℕ) (x y z : MachineState) → IsTurn m x y → IsTurn n x z → y ≡ z
one_turn m n x y z p q =
    let same : m ≡ n =
    one_number m n
    (λ earlier. both (is_turn_end y.cpu.pc) p.there (q.runs.clear m p.some earlier y p.runs.leads))
    (λ earlier. both (is_turn_end z.cpu.pc) q.there (p.runs.clear n q.some earlier z q.runs.leads)) in
    one_given m n x y z same p.runs.leads q.runs.leads

-- Two runs of one program have the same machines.
module _ {image : List ℕ} {entry limit : ℕ} {left other : MachineState} (p : RunsProgram image entry limit left)
    (q : RunsProgram image entry limit other) where
  one_after : (i : ℕ) → i ≤ turns limit (start image entry) → p.machine i ≡ q.machine i
  one_after zero within =
      let boot : p.boot ≡ q.boot = one_boot image entry p.boot q.boot p.is_machine q.is_machine p.is_boot q.is_boot in
      one_start (p.instructions 0) (q.instructions 0) q.boot (p.machine 0) (q.machine 0)
      (subst (λ x. Boots (p.instructions 0) x (p.machine 0)) boot p.first) q.first
  one_after (suc i) within =
      let below : i < turns limit (start image entry) = omega (arith, within) in
      let more : i + 1 ≡ suc i = omega arith in
      let t = p.machines.next i below in
      let u = q.machines.next i below in
      let turn : IsTurn t.turn (q.machine i) (p.machine (i + 1)) =
      subst (λ x. IsTurn t.turn x (p.machine (i + 1))) (one_after i (omega (arith, within))) t.is_turn in
      subst (λ k. p.machine k ≡ q.machine k) more
      (one_turn t.turn u.turn (q.machine i) (p.machine (i + 1)) (q.machine (i + 1)) turn u.is_turn)

-- One machine is left: it begins, starts and turns in one way.
pub one_machine_is_left : OneMachineIsLeft
one_machine_is_left image entry limit left other p q =
    sym p.last ∙ one_after p q (turns limit (start image entry)) (omega arith) ∙ q.last
