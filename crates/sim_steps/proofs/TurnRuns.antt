-- Runs of turns.
use Rattle.std.proofs.Common.{ℕ, ◌+◌, ◌<◌, ◌∙◌, ◌≡◌, ◌≤◌, ap, arith, Err, None, Ok, Option, refl, Result, Some, subst, suc, sym, zero}
use Rattle.sim_rows.proofs.Common.{◌>>=◌, bound, Cell, EndsAs, GplRun, GplState, IsMatching, IsTurn, MachineState, Matches, no_turns, one_more, one_more_turn, Reason, run, runs_steps}
use Rattle.sim_rows.proofs.Common.{shown_by, step, Stepped, Stopped, Turn, Turned, TurnedBy, TurnsMade, whole_turn, turns_made}
use Rattle.sim_rows.specs.gpl_step_defs.Run.{steps}
use Rattle.sim_steps.specs.Running.{RunsTurns}

state_in : GplState → Result GplState Reason → GplState
state_in other (Ok s) = s
state_in other (Err reason) = other

state_is : (s now : GplState) → ◌≡◌ {A = Result GplState Reason} (Ok s) (Ok now) → s ≡ now
unfolding state_in
state_is s now e = ap (state_in s) e

reason_in : Turn → Reason
reason_in Stepped = Cell
reason_in (Stopped reason) = reason

reason_is : (reason other : Reason) → Stopped reason ≡ Stopped other → reason ≡ other
unfolding reason_in
reason_is reason other e = ap reason_in e

next_is : (n : ℕ) → n + 1 ≡ suc n
next_is n = omega arith

-- what a step and what follows it give, each by itself
parts : (r : Result GplState Reason) (f : GplState → Result GplState Reason) (now : GplState) → (r >>= f) ≡ Ok now →
    (next : GplState) × (r ≡ Ok next) × (f next ≡ Ok now)
parts (Ok next) f now e = (next, refl, e)
parts (Err reason) f now e = absurd (cc)

steps_more : (made : ℕ) (s now next : GplState) → steps made s ≡ Ok now → step now ≡ Ok next → steps (suc made) s ≡ Ok next
steps_more zero s now next e f = ap (λ (s : GplState). step s >>= λ n. Ok n) (state_is s now e) ∙ ap (λ (r : Result GplState Reason). r >>= λ n. Ok n) f
steps_more (suc made) s now next e f =
    let p = parts (step s) (λ s. steps made s) now e in
    ap (λ (r : Result GplState Reason). r >>= λ s. steps (suc made) s) p.1 ∙ steps_more made p.0 now next p.2 f

-- a run by its first step
abbrev by_step : ℕ → GplState → Result GplState Reason → GplRun
by_step limit s r =
    elim r [
      | Ok next ↦ one_more (run limit next)
      | Err reason ↦ record { done = 0; last = s; stop = Some reason }
    ]

run_is : (limit : ℕ) (s : GplState) (r : Result GplState Reason) → step s ≡ r → run (suc limit) s ≡ by_step limit s r
run_is limit s r e = ap (by_step limit s) e

abbrev ended : ℕ → GplState → Option Reason → GplRun
ended done last stop = record { done = done; last = last; stop = stop }

run_stopped : (made limit : ℕ) (s now : GplState) (reason : Reason) → steps made s ≡ Ok now → step now ≡ Err reason → made < limit →
    run limit s ≡ ended made now (Some reason)
run_stopped made zero s now reason e f less = absurd (omega arith)
run_stopped zero (suc limit) s now reason e f less =
    let same = state_is s now e in
    run_is limit s (Err reason) (ap step same ∙ f) ∙ ap (λ (l : GplState). ended 0 l (Some reason)) same
run_stopped (suc made) (suc limit) s now reason e f less =
    let p = parts (step s) (λ s. steps made s) now e in
    run_is limit s (Ok p.0) p.1 ∙ ap one_more (run_stopped made limit p.0 now reason p.2 f (omega arith))
    ∙ ap (λ (d : ℕ). ended d now (Some reason)) (next_is made)

run_whole : (limit : ℕ) (s now : GplState) → steps limit s ≡ Ok now → run limit s ≡ ended limit now None
run_whole zero s now e = ap (λ (l : GplState). ended 0 l None) (state_is s now e)
run_whole (suc limit) s now e =
    let p = parts (step s) (λ s. steps limit s) now e in
    run_is limit s (Ok p.0) p.1 ∙ ap one_more (run_whole limit p.0 now p.2) ∙ ap (λ (d : ℕ). ended d now None) (next_is limit)

-- a run that may be longer makes at least these steps
pub done_at_least : (made limit : ℕ) (s now : GplState) → steps made s ≡ Ok now → made ≤ limit → made ≤ (run limit s).done
done_at_least zero limit s now e le = omega arith
done_at_least (suc made) zero s now e le = absurd (omega arith)
done_at_least (suc made) (suc limit) s now e le =
    let p = parts (step s) (λ s. steps made s) now e in
    let rest = done_at_least made limit p.0 now p.2 (omega arith) in
    let more : (run (suc limit) s).done ≡ (run limit p.0).done + 1 = ap (λ (q : GplRun). q.done) (run_is limit s (Ok p.0) p.1) in
    omega arith

-- Turns of steps that were made.
pub record Stepping (made : ℕ) (s : GplState) (x z : MachineState) (t u : ℕ) : Type 0 where
  pub now : GplState
  pub steps_are : steps made s ≡ Ok now
  pub matches : Matches now z
  pub count : ℕ
  pub counted : u ≡ t + count
  pub turns_are : TurnsMade s made count x z

pub none_yet : {x : MachineState} {t : ℕ} → IsMatching x → Stepping 0 (shown_by x.cpu.memory) x x t t
none_yet {x = x} m =
    record {
      now = shown_by x.cpu.memory;
      steps_are = refl;
      matches = record { matching = m; shows = refl };
      count = 0;
      counted = omega arith;
      turns_are = no_turns (shown_by x.cpu.memory) x;
    }

module _ (made : ℕ) {s : GplState} {x z : MachineState} {t u : ℕ} (h : Stepping made s x z t u) (w : MachineState) (v : ℕ) where
  -- the state after the steps that were made is the last of their run
  pub last_is : (run made s).last ≡ h.now
  last_is = ap (λ (q : GplRun). q.last) (run_whole made s h.now h.steps_are)

  turned_once : (turn : ℕ) → IsTurn turn z w → turn ≤ bound h.now → TurnsMade s (suc made) (h.count + turn) x w
  turned_once turn is within =
      let matches : Matches (run made s).last z = subst (λ (q : GplState). Matches q z) (sym last_is) h.matches in
      let le : turn ≤ bound (run made s).last = subst (λ (q : GplState). turn ≤ bound q) (sym last_is) within in
      one_more_turn s made h.count turn x z w h.turns_are matches is le

  of_now : (turn : Turn) → Turned (shown_by z.cpu.memory) z w (whole_turn u v) turn → Turned h.now z w (whole_turn u v) turn
  of_now turn e = subst (λ (q : GplState). Turned q z w (whole_turn u v) turn) h.matches.shows e

  stepped_by : (r : Result GplState Reason) → step h.now ≡ r → TurnedBy r h.now z w (whole_turn u v) Stepped → Stepping (suc made) s x w t v
  stepped_by (Ok next) e r =
      let a = h.counted in
      let b = r.1.counted in
      record {
        now = next;
        steps_are = steps_more made s h.now next h.steps_are e;
        matches = r.2;
        count = h.count + r.1.count;
        counted = omega arith;
        turns_are = turned_once r.1.count r.1.turn (let le = r.1.within in omega arith);
      }
  stepped_by (Err reason) e r = absurd (let a = r.0 in cc)

  pub stepped : Turned (shown_by z.cpu.memory) z w (whole_turn u v) Stepped → Stepping (made + 1) s x w t v
  stepped e = subst (λ (m : ℕ). Stepping m s x w t v) (sym (next_is made)) (stepped_by (step h.now) refl (of_now Stepped e))

  stopped_as : (limit : ℕ) (reason : Reason) → made < limit → (r : Result GplState Reason) → step h.now ≡ r → TurnedBy r h.now z w (whole_turn u v) (Stopped reason) →
      RunsTurns s limit x w t v made (Some reason)
  stopped_as limit reason less (Ok next) e r = absurd (let a = r.0 in cc)
  stopped_as limit reason less (Err other) e r =
      let a = h.counted in
      let b = r.1.counted in
      let is = run_stopped made limit s h.now other h.steps_are e less in
      record {
        done_is = sym (ap (λ (q : GplRun). q.done) is);
        stop_is = ap Some (reason_is reason other r.0) ∙ sym (ap (λ (q : GplRun). q.stop) is);
        count = h.count + r.1.count;
        counted = omega arith;
        runs = runs_steps s limit (h.count + r.1.count) x w
            (subst (λ (q : GplRun). TurnsMade s (turns_made q.stop q.done) (h.count + r.1.count) x w) (sym is)
            (subst (λ (d : ℕ). TurnsMade s d (h.count + r.1.count) x w) (sym (next_is made))
            (turned_once r.1.count r.1.turn (let le = r.1.within in omega arith))))
            (subst (λ (q : GplRun). EndsAs q.stop q.last w) (sym is) r.2);
      }

  pub stopped : (limit : ℕ) (reason : Reason) → made < limit → Turned (shown_by z.cpu.memory) z w (whole_turn u v) (Stopped reason) →
      RunsTurns s limit x w t v made (Some reason)
  stopped limit reason less e = stopped_as limit reason less (step h.now) refl (of_now (Stopped reason) e)

pub whole : (limit : ℕ) {s : GplState} {x z : MachineState} {t u : ℕ} → Stepping limit s x z t u → RunsTurns s limit x z t u limit None
whole limit {s = s} {x = x} {z = z} h =
    let is = run_whole limit s h.now h.steps_are in
    record {
      done_is = sym (ap (λ (q : GplRun). q.done) is);
      stop_is = sym (ap (λ (q : GplRun). q.stop) is);
      count = h.count;
      counted = h.counted;
      runs = runs_steps s limit h.count x z
          (subst (λ (q : GplRun). TurnsMade s (turns_made q.stop q.done) h.count x z) (sym is) h.turns_are)
          (subst (λ (q : GplRun). EndsAs q.stop q.last z) (sym is) h.matches);
    }
