-- The machines of a run: turns one after the other, and a program that is run from boot.
use Rattle.std.proofs.Common.{◌≡◌, ◌<◌, ◌≤◌, ℕ, zero, suc, ◌+◌, List, Bool, true, false, refl, sym, ap, ◌∙◌, subst}
use Rattle.std.proofs.Common.{arith, Option, Some, None, Result, Ok, Err}
use Rattle.std.specs.Prelude.{eqb, if◌then◌else◌, nat_lt}
use Rattle.std.proofs.lemmas.Bool.Decides.{nat_tests}
use Rattle.tms_defs.specs.Accesses.{Answer, Gives, ◌>>=◌}
use Rattle.console_defs.specs.Machine.{MachineState, IsMachine, steps}
use Rattle.console_defs.proofs.RunLaws.{steps-add}
use Rattle.gpl_step_defs.specs.declared.reason.Reason.{Reason}
use Rattle.gpl_step_defs.specs.State.{GplState, start}
use Rattle.gpl_step_defs.specs.Run as gpl
use Rattle.gpl_step_defs.specs.Run.{GplRun, bound, one_more, run, turns, turns_made}
use Rattle.gpl_step_defs.specs.Step.{step}
use Rattle.gpl_step_defs.proofs.RunLaws.{runs_are_steps}
use Rattle.interp_defs.specs.Boot.{IsBoot}
use Rattle.interp_defs.specs.Match.{Matches}
use Rattle.interp_defs.specs.Turns.{Boots, IsTurn}
use Rattle.interp_defs.specs.Programs.{EndsAs, bound_of_boot, RunsProgram, RunsSteps, TurnsWithin}

-- what a step from the machine that matches its state gives
abbrev Turns : GplState → ℕ → ℕ → MachineState → MachineState → Type 0
Turns s before after x y = Matches s x × TurnsWithin s before after x y

-- `number` turns lead from one machine to another, and have `count` instructions in all: the machines between them, and
-- the instructions before each, by their numbers.
pub record TurnsMade (s : GplState) (number count : ℕ) (x y : MachineState) : Type 0 where
  pub machine : ℕ → MachineState
  pub made : ℕ → ℕ
  pub first : machine 0 ≡ x
  pub none : made 0 ≡ 0
  pub last : machine number ≡ y
  pub all : made number ≡ count
  pub next : (i : ℕ) → i < number → Turns (run i s).last (made i) (made (i + 1)) (machine i) (machine (i + 1))

-- a function but for one place
changed : {X : Type 0} → (ℕ → X) → ℕ → X → ℕ → X
changed f place x i = if eqb i place then x else f i

there : {X : Type 0} (f : ℕ → X) (place : ℕ) (x : X) (i : ℕ) → i ≡ place → changed f place x i ≡ x
unfolding changed
there f place x i is = let same : eqb i place ≡ true = grind (arith, nat_tests) in rw same refl

elsewhere : {X : Type 0} (f : ℕ → X) (place : ℕ) (x : X) (i : ℕ) → i < place → changed f place x i ≡ f i
unfolding changed
elsewhere f place x i below = let apart : eqb i place ≡ false = grind (arith, nat_tests) in rw apart refl

-- what holds of numbers and machines holds of their like
moved : (s : GplState) (a b c d : ℕ) (x y z w : MachineState) → a ≡ c → b ≡ d → x ≡ z → y ≡ w → Turns s a b x y
    → Turns s c d z w
moved s a b c d x y z w before after first second turns =
    subst (λ k. Turns s k d z w) before
    (subst (λ k. Turns s a k z w) after
    (subst (λ m. Turns s a b m w) first (subst (λ m. Turns s a b x m) second turns)))

-- no turn yet
pub no_turns : (s : GplState) (x : MachineState) → TurnsMade s 0 0 x x
no_turns s x =
    record {
      machine = λ i. x;
      made = λ i. 0;
      first = refl;
      none = refl;
      last = refl;
      all = refl;
      next = λ i below. absurd (omega (arith, below));
    }

-- one more turn
module _ (s : GplState) (earlier led turn : ℕ) (x z y : MachineState) (w : TurnsMade s earlier led x z)
    (matches : Matches (run earlier s).last z) (is_turn : IsTurn turn z y)
    (within : turn ≤ bound (run earlier s).last) where
  abbrev machine : ℕ → MachineState
  machine = changed w.machine (suc earlier) y

  abbrev made : ℕ → ℕ
  made = changed w.made (suc earlier) (led + turn)

  by_place : (i : ℕ) → i < suc earlier → (end : Bool) → eqb i earlier ≡ end
      → Turns (run i s).last (made i) (made (i + 1)) (machine i) (machine (i + 1))
  by_place i below true is =
      let here : i ≡ earlier = grind (arith, nat_tests) in
      let top : i + 1 ≡ suc earlier = omega (arith, here) in
      let turned : Turns (run i s).last led (led + turn) z y =
      subst (λ k. Turns (run k s).last led (led + turn) z y) (sym here)
      (matches, record { turn = turn; is_turn = is_turn; within = within; adds = refl }) in
      moved (run i s).last led (led + turn) _ _ z y _ _
      (sym (elsewhere w.made (suc earlier) (led + turn) i below ∙ ap w.made here ∙ w.all))
      (sym (there w.made (suc earlier) (led + turn) (i + 1) top))
      (sym (elsewhere w.machine (suc earlier) y i below ∙ ap w.machine here ∙ w.last))
      (sym (there w.machine (suc earlier) y (i + 1) top))
      turned
  by_place i below false is =
      let less : i < earlier = grind (arith, nat_tests) in
      let more : i + 1 < suc earlier = omega (arith, less) in
      moved (run i s).last (w.made i) (w.made (i + 1)) _ _ (w.machine i) (w.machine (i + 1)) _ _
      (sym (elsewhere w.made (suc earlier) (led + turn) i below))
      (sym (elsewhere w.made (suc earlier) (led + turn) (i + 1) more))
      (sym (elsewhere w.machine (suc earlier) y i below))
      (sym (elsewhere w.machine (suc earlier) y (i + 1) more))
      (w.next i less)

  pub one_more_turn : TurnsMade s (suc earlier) (led + turn) x y
  one_more_turn =
      record {
        machine = machine;
        made = made;
        first = elsewhere w.machine (suc earlier) y 0 (omega arith) ∙ w.first;
        none = elsewhere w.made (suc earlier) (led + turn) 0 (omega arith) ∙ w.none;
        last = there w.machine (suc earlier) y (suc earlier) refl;
        all = there w.made (suc earlier) (led + turn) (suc earlier) refl;
        next = λ i below. by_place i below (eqb i earlier) refl;
      }

-- a run of as many steps as were made does not stop, and is at the same state
state_of : GplState → Result GplState Reason → GplState
state_of other (Ok s) = s
state_of other (Err reason) = other

one_state : (x y : GplState) → (first : Result GplState Reason) → first ≡ Ok x → first ≡ Ok y → x ≡ y
unfolding state_of
one_state x y first a b = ap (state_of x) (sym a ∙ b)

abbrev done_of : GplRun → ℕ
done_of r = r.done

-- a run by what its first step gives
abbrev run_by : ℕ → GplState → Result GplState Reason → GplRun
run_by limit s r =
    elim r [
      | Ok next ↦ one_more (run limit next)
      | Err reason ↦ record { done = 0; last = s; stop = Some reason }
    ]

abbrev MadeAll : ℕ → GplRun → Type 0
MadeAll i r = (r.done ≡ i) × (r.stop ≡ None)

-- the run up to a step that was made
run_made : (limit : ℕ) (s : GplState) (i : ℕ) → i ≤ (run limit s).done → ((run i s).done ≡ i) × ((run i s).stop ≡ None)
run_made limit s zero within = (refl, refl)
run_made zero s (suc i) within = absurd (omega (arith, within))
run_made (suc limit) s (suc i) within = by (λ next below. run_made limit next i below) (step s) refl within
  where
    by : ((next : GplState) → i ≤ (run limit next).done → ((run i next).done ≡ i) × ((run i next).stop ≡ None))
        → (r : Result GplState Reason) → step s ≡ r
        → suc i ≤ done_of (run_by limit s r) → MadeAll (suc i) (run_by i s r)
    by go (Ok next) is within = let r = go next (omega (arith, within)) in (omega (arith, r.0), r.1)
    by go (Err reason) is within = absurd (omega (arith, within))

-- the run that was made is at the last state
all_made : (limit : ℕ) (s : GplState) → (run (run limit s).done s).last ≡ (run limit s).last
all_made limit s =
    let r = runs_are_steps limit s in
    let part = runs_are_steps (run limit s).done s in
    let same = run_made limit s (run limit s).done (omega arith) in
    one_state _ _ (gpl.steps (run limit s).done s) (ap (λ n. gpl.steps n s) (sym same.0) ∙ part.steps) r.steps

-- the turns of a run, from their machine on
module _ (s : GplState) (limit count : ℕ) (x y : MachineState) (w : TurnsMade s (turns limit s) count x y) where
  -- a state that was reached is matched: a turn goes on from there, or it is the last
  matched : (stop : Option Reason) → (run limit s).stop ≡ stop → EndsAs stop (run limit s).last y
      → (i : ℕ) → i ≤ (run limit s).done → Matches (run i s).last (w.machine i)
  matched (Some reason) is ends i within =
      let all : turns limit s ≡ (run limit s).done + 1 = ap (λ o. turns_made o (run limit s).done) is in
      (w.next i (omega (arith, all, within))).0
  matched None is ends i within = by (nat_lt i (run limit s).done) refl
    where
      all : turns limit s ≡ (run limit s).done
      all = ap (λ (o : Option Reason). turns_made o (run limit s).done) is

      by : (less : Bool) → nat_lt i (run limit s).done ≡ less → Matches (run i s).last (w.machine i)
      by true l = let below : i < turns limit s = grind (arith, nat_tests) in (w.next i below).0
      by false l =
          let here : i ≡ (run limit s).done = grind (arith, nat_tests) in
          let machine : w.machine i ≡ y = ap w.machine (here ∙ sym all) ∙ w.last in
          let state : (run i s).last ≡ (run limit s).last = ap (λ (k : ℕ). (run k s).last) here ∙ all_made limit s in
          subst (λ m. Matches (run i s).last m) (sym machine) (subst (λ t. Matches t y) (sym state) ends)

  pub runs_steps : EndsAs (run limit s).stop (run limit s).last y → RunsSteps s limit count x y
  runs_steps ends =
      record {
        machine = w.machine;
        instructions = w.made;
        first = w.first;
        none = w.none;
        machines = record {
          matches = matched (run limit s).stop refl ends;
          next = λ i below. (w.next i below).1;
        };
        last = w.last;
        all = w.all;
        ends = ends;
      }

-- what is counted from a later number on
counted_on : (s : GplState) (count before after : ℕ) (x y : MachineState) → TurnsWithin s before after x y
    → TurnsWithin s (count + before) (count + after) x y
counted_on s count before after x y t =
    record { turn = t.turn; is_turn = t.is_turn; within = t.within; adds = omega (arith, t.adds) }

-- A machine boots, and a run is made from there.
pub runs_program : {image : List ℕ} {entry limit count made : ℕ} {boot first left : MachineState} → IsMachine boot
    → IsBoot image entry boot → Boots count boot first → count ≤ bound_of_boot
    → RunsSteps (start image entry) limit made first left → RunsProgram image entry limit left
runs_program {image} {entry} {limit} {count} {made} {boot} {first} {left} is_machine is_boot boots within r =
    record {
      boot = boot;
      is_machine = is_machine;
      is_boot = is_boot;
      machine = r.machine;
      instructions = λ i. count + r.instructions i;
      first =
          subst (λ n. Boots n boot (r.machine 0)) (omega (arith, r.none))
          (subst (λ m. Boots count boot m) (sym r.first) boots);
      within = omega (arith, r.none, within);
      machines = record {
        matches = r.machines.matches;
        next = λ i below.
            counted_on (run i (start image entry)).last count (r.instructions i) (r.instructions (i + 1))
            (r.machine i) (r.machine (i + 1)) (r.machines.next i below);
      };
      last = r.last;
      ends = r.ends;
    }

-- The law that the numbers of instructions are those from boot: that number leads from there to the machine after each turn.
pub machines_follow : {image : List ℕ} {entry limit : ℕ} {left : MachineState} (p : RunsProgram image entry limit left)
    (i : ℕ) → i ≤ turns limit (start image entry) → steps (p.instructions i) p.boot ≡ Gives (p.machine i)
machines_follow p zero within = p.first.leads
machines_follow {image} {entry} {limit} p (suc i) within =
    let more : i + 1 ≡ suc i = omega arith in
    let t = p.machines.next i (omega (arith, within)) in
    let on : steps (p.instructions (i + 1)) p.boot ≡ Gives (p.machine (i + 1)) =
    ap (λ n. steps n p.boot) t.adds
    ∙ steps-add (p.instructions i) t.turn p.boot
    ∙ ap (λ (r : Answer MachineState). r >>= steps t.turn) (machines_follow p i (omega (arith, within)))
    ∙ t.is_turn.runs.leads in
    subst (λ k. steps (p.instructions k) p.boot ≡ Gives (p.machine k)) more on

-- The law that the states are those of the steps: each is the one after that number of steps in a row.
pub states_follow : (limit : ℕ) (s : GplState) (i : ℕ) → i ≤ (run limit s).done → gpl.steps i s ≡ Ok (run i s).last
states_follow limit s i within =
    subst (λ n. gpl.steps n s ≡ Ok (run i s).last) (run_made limit s i within).0 (runs_are_steps i s).steps
