-- A run of the view is a run of the machine.
use Rattle.std.proofs.Common.{◌≡◌, ℕ, zero, suc, ◌+◌, ◌<◌, List, Bool, true, false, refl, ap, subst, ◌∙◌, arith}
use Rattle.std.specs.Prelude.{◌||◌}
use Rattle.sim_view.specs.Prelude.{Answer, Gives, is_turn_end, Memory, Runs, View}
use Rattle.base_defs.specs.Counts.{saturating_sum}
use Rattle.tms_defs.specs.Operand.{Cpu}
use Rattle.tms_defs.specs.Step.{execution}
use Rattle.console_defs.specs.Machine.{MachineState, machine_step, steps}
use Rattle.tms_defs.specs.declared.step_end.StepEnd.TheVariants.{Done}
use Rattle.sim_view.specs.Running.{Ran, one_more, ends_piece, ran}
use Rattle.sim_view.proofs.Answers.{given, given_by}
use Rattle.sim_view.proofs.FirstStep.{turn, ran_turn}
use Rattle.sim_view.proofs.Seen.{seen_run, shown}
use Rattle.sim_view.proofs.Places.{pick}
use Rattle.sim_view.proofs.Simulates.{Shows, carry, do_execution}

abbrev pub machine : Memory → Cpu View → ℕ → MachineState
machine m y n = record { cpu = carry m y; count = n }

-- A step of the view is a step of the machine.
record Stepped (m : Memory) (y : Cpu View) (n word : ℕ) (z : Cpu View) : Type 0 where
  memory : Memory
  step : machine_step (machine m y n) ≡ (Done word, machine memory z (saturating_sum n 1))
  shows : Shows memory z.memory

do_step : (m : Memory) (y : Cpu View) (n : ℕ) (done : ℕ × Cpu View) → Shows m y.memory →
    execution View shown y ≡ Gives done → Stepped m y n done.0 done.1
do_step m y n done h e =
    let s = (do_execution y m h).by done e in
    record { memory = s.0; step = rw s.1 refl; shows = s.2 }

-- Where a run of the view leads: the machine's run has as many instructions and leads to what the view shows.
pub record Followed (ends : List ℕ) (before most : ℕ) (m : Memory) (y : Cpu View) (n : ℕ) (z : ℕ × Cpu View) : Type 0 where
  pub count : ℕ
  pub memory : Memory
  pub raised_to : ℕ
  pub made : z.0 ≡ before + count
  pub some : 0 < count
  pub ran : ran ends most (machine m y n) ≡ record { count = count; left = machine memory z.1 raised_to }
  pub runs : Runs count (machine m y n) (machine memory z.1 raised_to)
  pub shows : Shows memory z.1.memory

not_end : (a b c : Bool) → (a || (b || c)) ≡ false → b ≡ false
not_end true b c e = absurd (cc)
not_end false true c e = absurd (cc)
not_end false false c e = refl

one_run : (x y : MachineState) (word : ℕ) → machine_step x ≡ (Done word, y) → Runs 1 x y
one_run x y word e = record { leads = rw e refl; clear = λ j p q. absurd (omega arith) }

later : (k : ℕ) (x y z : MachineState) (word : ℕ) → 0 < k → machine_step x ≡ (Done word, y) → is_turn_end y.cpu.pc ≡ false →
    Runs k y z → Runs (suc k) x z
later k x y z word some e c r = record { leads = rw e r.leads; clear = clear_at }
  where
    clear_at : (j : ℕ) → 0 < j → j < suc k → (u : MachineState) → steps j x ≡ Gives u → is_turn_end u.cpu.pc ≡ false
    clear_at zero p q u f = absurd (omega arith)
    clear_at (suc zero) p q u f = let g : Gives y ≡ Gives u = rw e at f in rw (← (given y u g)) c
    clear_at (suc (suc i)) p q u f = r.clear (suc i) (omega arith) (omega arith) u (rw e at f)

ran_once : (ends : List ℕ) (most word : ℕ) (x y : MachineState) → machine_step x ≡ (Done word, y) →
    ends_piece ends word y.cpu.pc ≡ true → ran ends (suc most) x ≡ record { count = 1; left = y }
ran_once ends most word x y e c = ran_turn ends most x ∙ ap (turn ends most) e ∙ rw c refl

ran_again : (ends : List ℕ) (most word : ℕ) (x y : MachineState) (r : Ran) → machine_step x ≡ (Done word, y) →
    ends_piece ends word y.cpu.pc ≡ false → ran ends most y ≡ r → ran ends (suc most) x ≡ one_more r
ran_again ends most word x y r e c f = ran_turn ends most x ∙ ap (turn ends most) e ∙ rw (c, f) refl

abbrev goes_on : List ℕ → ℕ → ℕ → ℕ × Cpu View → Answer (ℕ × Cpu View)
goes_on ends made most done =
    elim (ends_piece ends done.0 done.1.pc) [ true ↦ Gives (suc made, done.1) | false ↦ seen_run ends (suc made) most done.1 ]

-- the last step
last : (ends : List ℕ) (made most : ℕ) (m : Memory) (y : Cpu View) (n : ℕ) (z done : ℕ × Cpu View) → Stepped m y n done.0 done.1 →
    ends_piece ends done.0 done.1.pc ≡ true → Gives (suc made, done.1) ≡ Gives z → Followed ends made (suc most) m y n z
last ends made most m y n z done s c e =
    let is : (suc made, done.1) ≡ z = given _ z e in
    subst (λ (u : ℕ × Cpu View). Followed ends made (suc most) m y n u) is
    (record {
      count = 1;
      memory = s.memory;
      raised_to = saturating_sum n 1;
      made = omega arith;
      some = omega arith;
      ran = ran_once ends most done.0 (machine m y n) (machine s.memory done.1 (saturating_sum n 1)) s.step c;
      runs = one_run (machine m y n) (machine s.memory done.1 (saturating_sum n 1)) done.0 s.step;
      shows = s.shows;
    })

-- a step before others
more : (ends : List ℕ) (made most : ℕ) (m : Memory) (y : Cpu View) (n : ℕ) (z done : ℕ × Cpu View) → (s : Stepped m y n done.0 done.1) →
    ends_piece ends done.0 done.1.pc ≡ false → Followed ends (suc made) most s.memory done.1 (saturating_sum n 1) z →
    Followed ends made (suc most) m y n z
more ends made most m y n z done s c f =
    let made_more = f.made in
    record {
      count = suc f.count;
      memory = f.memory;
      raised_to = f.raised_to;
      made = omega arith;
      some = omega arith;
      ran = ran_again ends most done.0 (machine m y n) (machine s.memory done.1 (saturating_sum n 1))
          (record { count = f.count; left = machine f.memory z.1 f.raised_to }) s.step c f.ran;
      runs = later f.count (machine m y n) (machine s.memory done.1 (saturating_sum n 1)) (machine f.memory z.1 f.raised_to) done.0 f.some s.step
          (not_end _ (is_turn_end done.1.pc) _ c) f.runs;
      shows = f.shows;
    }

pub followed : (ends : List ℕ) (made most : ℕ) (m : Memory) (y : Cpu View) (n : ℕ) (z : ℕ × Cpu View) → Shows m y.memory →
    seen_run ends made most y ≡ Gives z → Followed ends made most m y n z
followed ends made zero m y n z h e = absurd (cc)
followed ends made (suc most) m y n z h e =
    let g = given_by (execution View shown y) (goes_on ends made most) z e in
    let s = do_step m y n g.0 h g.1 in
    pick (ends_piece ends g.0.0 g.0.1.pc)
    (λ c. last ends made most m y n z g.0 s c (rw (c, goes_on) at g.2))
    (λ c. more ends made most m y n z g.0 s c (followed ends (suc made) most s.memory g.0.1 (saturating_sum n 1) z s.shows (rw (c, goes_on) at g.2)))
