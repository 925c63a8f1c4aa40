-- Programs whose steps are shown, line by line.
use Rattle.std.proofs.Common.{◌≡◌, ℕ, ◌+◌, ◌-◌, ◌<◌, ◌≤◌, List, [], ◌∷◌, ◌++◌, map, Option, Some, None, Bool, true, false, zero, suc, refl, Result, Ok, Err, sym, ap, ◌∙◌}
use Rattle.std.proofs.Common.{subst, arith}
use Rattle.std.specs.Prelude.{codes}
use Rattle.std.specs.List.{range_with_len}
use Rattle.console_defs.specs.Machine.{MachineState}
use Rattle.gpl_step_defs.specs.declared.reason.Reason.{Reason}
use Rattle.gpl_step_defs.specs.State.{GplState}
use Rattle.gpl_step_defs.specs.Step.{step}
use Rattle.gpl_step_defs.specs.Run.{run}
use Rattle.tms_defs.specs.Accesses.{Answer, Gives}
use Rattle.console_defs.specs.Machine.{steps}
use Rattle.gpl_step_defs.specs.Run.{turns, turns_made}
use Rattle.interp_defs.specs.Runs.{is_turn_end}
use Rattle.interp_defs.specs.Turns.{IsTurn}
use Rattle.interp_defs.specs.Programs.{RunsSteps}
use Rattle.interp_defs.proofs.Machines.{TurnsMade}
use Rattle.bench_io.specs.Stream.{SinkState}
use Rattle.bench_io.specs.Written.{Wrote, Missed}
use Rattle.bench_io.proofs.Writes.{wrote_none, wrote_more, missed_more, missed_early}
use Rattle.interp_defs.specs.declared.turn.Turn.{Turn}
use Rattle.interp_defs.specs.declared.turn.Turn.TheVariants.{Stepped, Stopped}
use Rattle.interp_defs.specs.Match.{IsMatching, shown_by}
use Rattle.interp_defs.specs.Turned.{Turned, TurnedBy, whole_turn}
use Rattle.sim_steps.specs.Running.{RunsTurns}
use Rattle.sim_steps.proofs.TurnRuns.{Stepping, none_yet, stepped, stopped, whole, last_is, done_at_least}
use Rattle.gpl_run.specs.Sessions.{SessionState, IsSession, gpl_state_of, address_in, ended_by}
use Rattle.report_defs.specs.Trace.{SeenState, ShowsChanges, seen_state, step_front, step_line, step_lines}
use Rattle.gpl_counts.specs.Counts.{ShowsStep, changes_alone, line_after, lines_by}
use Rattle.gpl_counts.proofs.Counts.{turns_least}
use Rattle.trace_dump.specs.Plays.{PlaysWhole, BreaksOff}
use Rattle.report_defs.proofs.Ranges.{mapped_split}

pub seen_running : (t : SessionState) → t.ended ≡ None → gpl_state_of t ≡ shown_by t.machine.cpu.memory
seen_running t e = ap (λ (o : Option Reason). record (shown_by t.machine.cpu.memory) { pc = address_in o t.machine }) e

pub matches_of : (t : SessionState) → t.ended ≡ None → IsSession t.machine t.ended → IsMatching t.machine
matches_of t e h = subst (IsSession t.machine) e h

-- ---- one machine after a number of turns

one_number : (m n : ℕ) → (m < n → ⊥) → (n < m → ⊥) → m ≡ n
one_number m n above below = omega arith

given_or : MachineState → Answer MachineState → MachineState
given_or other (Gives x) = x
given_or other _ = other

one_given : (m n : ℕ) (x y z : MachineState) → m ≡ n → steps m x ≡ Gives y → steps n x ≡ Gives z → y ≡ z
unfolding given_or
one_given m n x y z same first second = ap (given_or y) (sym first ∙ ap (λ made. steps made x) same ∙ second)

both : (test : Bool) → test ≡ true → test ≡ false → ⊥
both test holds fails = absurd (cc)

one_turn : (m n : ℕ) (x y z : MachineState) → IsTurn m x y → IsTurn n x z → y ≡ z
one_turn m n x y z p q =
    let same : m ≡ n =
    one_number m n
    (λ earlier. both (is_turn_end y.cpu.pc) p.there (q.runs.clear m p.some earlier y p.runs.leads))
    (λ earlier. both (is_turn_end z.cpu.pc) q.there (p.runs.clear n q.some earlier z q.runs.leads)) in
    one_given m n x y z same p.runs.leads q.runs.leads

module _ {s : GplState} {limit count all : ℕ} {x y z : MachineState} {made : ℕ} (w : TurnsMade s made count x z)
    (r : RunsSteps s limit all x y) (le : made ≤ turns limit s) where
  one_after : (i : ℕ) → i ≤ made → w.machine i ≡ r.machine i
  one_after zero within = w.first ∙ sym r.first
  one_after (suc i) within =
      let more : i + 1 ≡ suc i = omega arith in
      let t = (w.next i (omega (arith, within))).1 in
      let u = r.machines.next i (omega (arith, within, le)) in
      let turn : IsTurn t.turn (r.machine i) (w.machine (i + 1)) =
      subst (λ m. IsTurn t.turn m (w.machine (i + 1))) (one_after i (omega (arith, within))) t.is_turn in
      subst (λ k. w.machine k ≡ r.machine k) more
      (one_turn t.turn u.turn (r.machine i) (w.machine (i + 1)) (r.machine (i + 1)) turn u.is_turn)

  pub one_left : z ≡ r.machine made
  one_left = sym w.last ∙ one_after made (omega arith)

-- ---- the lines of steps, each with the count of its machine

next_is : (n : ℕ) → suc n ≡ n + 1
next_is n = omega arith

pub one_more_line : (shows : ShowsStep) (s : GplState) (machine : ℕ → MachineState) (made : ℕ)
    → lines_by shows s machine (made + 1) ≡ lines_by shows s machine made ++ line_after shows s made (machine (made + 1)).count ∷ []
unfolding lines_by
one_more_line shows s machine made = mapped_split (λ made. line_after shows s made (machine (made + 1)).count) made 1

-- Lines that were made one by one: each has the count of the machine after its step.
module _ (shows : ShowsStep) (s : GplState) (x : MachineState) (t : ℕ) where
  abbrev pub Lined : ℕ → List (List ℕ) → Type 0
  Lined zero lines = lines ≡ []
  Lined (suc made) lines =
      (earlier : List (List ℕ)) × (z : MachineState) × (v : ℕ) × Lined made earlier × Stepping (made + 1) s x z t v
      × (lines ≡ earlier ++ line_after shows s made z.count ∷ [])

  pub lined : (limit all : ℕ) (y : MachineState) (r : RunsSteps s limit all x y) (made : ℕ) → made ≤ turns limit s
      → (lines : List (List ℕ)) → Lined made lines → lines ≡ lines_by shows s r.machine made
  unfolding lines_by
  lined limit all y r zero le lines is = is
  lined limit all y r (suc made) le lines (earlier, z, v, before, h, is) =
      let more : made + 1 ≡ suc made = omega arith in
      let left : z ≡ r.machine (made + 1) = one_left h.turns_are r (omega (arith, le)) in
      is
      ∙ ap (λ (l : List (List ℕ)). l ++ line_after shows s made z.count ∷ []) (lined limit all y r made (omega (arith, le)) earlier before)
      ∙ ap (λ (m : MachineState). lines_by shows s r.machine made ++ line_after shows s made m.count ∷ []) left
      ∙ sym (one_more_line shows s r.machine made)
      ∙ ap (lines_by shows s r.machine) more

-- the lines of fewer steps are a front of those of more
pub lines_after : (shows : ShowsChanges) (s : GplState) (made done : ℕ) → made ≤ done → (rest : List (List ℕ)) × (step_lines shows s done ≡ step_lines shows s made ++ rest)
unfolding step_lines
lines_after shows s made done le =
    let sum : made + (done - made) ≡ done = omega arith in
    let line_at : ℕ → List ℕ = λ made. step_line shows (made + 1) (run made s).last (run (made + 1) s).last in
    (map line_at (range_with_len made (done - made)), ap (λ (n : ℕ). step_lines shows s n) (sym sum) ∙ mapped_split line_at made (done - made))

-- lines of changes alone
pub lines_alone : (shows : ShowsChanges) (s : GplState) (machine : ℕ → MachineState) (made : ℕ) → lines_by (changes_alone shows) s machine made ≡ step_lines shows s made
unfolding lines_by step_lines
lines_alone shows s machine made = refl

-- So many steps were made and shown.
pub record Playing (shows : ShowsStep) (x y : SessionState) (t u made : ℕ) (o o' : SinkState) (kept : SeenState) : Type 0 where
  pub stepping : Stepping made (gpl_state_of x) x.machine y.machine t u
  pub running : y.ended ≡ None
  pub kept_is : kept ≡ seen_state (gpl_state_of y)
  pub lines : List (List ℕ)
  pub are_lines : Lined shows (gpl_state_of x) x.machine t made lines
  pub wrote : Wrote o o' lines

pub begun : (shows : ShowsStep) (x : SessionState) (t : ℕ) (o : SinkState) (kept : SeenState) → x.ended ≡ None → IsSession x.machine x.ended → kept ≡ seen_state (gpl_state_of x) → Playing shows x x t t 0 o o kept
begun shows x t o kept e h is = record {
  stepping = subst (λ (s : GplState). Stepping 0 s x.machine x.machine t t) (sym (seen_running x e)) (none_yet (matches_of x e h));
  running = e;
  kept_is = is;
  lines = [];
  are_lines = refl;
  wrote = wrote_none o;
}

-- what is seen of a machine at a stop is what was seen before
same_seen : (a b : GplState) → a.cells ≡ b.cells → a.vdp ≡ b.vdp → a.registers ≡ b.registers → seen_state a ≡ seen_state b
same_seen a b c v r =
    let made : List ℕ → List ℕ → List ℕ → SeenState = λ x y z. record { cells = x; vdp = y; registers = z } in
    ap (λ x. made x a.vdp a.registers) c ∙ ap (λ y. made b.cells y a.registers) v ∙ ap (made b.cells b.vdp) r

halted_by : (z w : MachineState) (u v : ℕ) (reason : Reason) (r : Result GplState Reason) → TurnedBy r (shown_by z.cpu.memory) z w (whole_turn u v) (Stopped reason) →
    seen_state (shown_by w.cpu.memory) ≡ seen_state (shown_by z.cpu.memory)
halted_by z w u v reason (Ok next) t = absurd (let a = t.0 in cc)
halted_by z w u v reason (Err other) t = same_seen (shown_by w.cpu.memory) (shown_by z.cpu.memory) t.2.cells t.2.vdp t.2.registers

-- what was written are the lines of a run
wrote_by : (shows : ShowsStep) (limit : ℕ) (x z : SessionState) (t v made : ℕ) (o o' : SinkState) (lines : List (List ℕ))
    → Lined shows (gpl_state_of x) x.machine t made lines → (r : RunsTurns (gpl_state_of x) limit x.machine z.machine t v made z.ended)
    → Wrote o o' lines → Wrote o o' (lines_by shows (gpl_state_of x) r.runs.machine made)
wrote_by shows limit x z t v made o o' lines are r wrote =
    let s = gpl_state_of x in
    let done = r.done_is in
    let least = turns_least (run limit s).stop (run limit s).done in
    subst (Wrote o o') (lined shows s x.machine t limit r.count z.machine r.runs made (omega (arith, done, least)) lines are) wrote

module _ (shows : ShowsStep) (x y z : SessionState) (t u v made : ℕ) (o o' : SinkState) (kept : SeenState) (p : Playing shows x y t u made o o' kept) where
  -- the state before the step
  before_is : gpl_state_of y ≡ (run made (gpl_state_of x)).last
  before_is = seen_running y p.running ∙ p.stepping.matches.shows ∙ sym (last_is made p.stepping z.machine v)

  -- a step that stops
  module _ (turn : Turn) (reason : Reason) (is : turn ≡ Stopped reason) (turned : Turned (shown_by y.machine.cpu.memory) y.machine z.machine (whole_turn u v) turn) (ended : z.ended ≡ ended_by turn) where
    abbrev stops : Turned (shown_by y.machine.cpu.memory) y.machine z.machine (whole_turn u v) (Stopped reason)
    stops = subst (λ (a : Turn). Turned (shown_by y.machine.cpu.memory) y.machine z.machine (whole_turn u v) a) is turned

    pub stops_whole : (limit : ℕ) → made < limit → PlaysWhole shows limit x z t v o o' made
    stops_whole limit less =
        let runs : RunsTurns (gpl_state_of x) limit x.machine z.machine t v made z.ended =
        subst (RunsTurns (gpl_state_of x) limit x.machine z.machine t v made) (sym (ended ∙ ap ended_by is))
        (stopped made p.stepping z.machine v limit reason less stops) in
        record { runs = runs; wrote = wrote_by shows limit x z t v made o o' p.lines p.are_lines runs p.wrote }

    pub stops_kept : kept ≡ seen_state (gpl_state_of z)
    stops_kept = p.kept_is ∙ sym (halted_by y.machine z.machine u v reason (step (shown_by y.machine.cpu.memory)) stops)

  -- a step that is made
  module _ (turn : Turn) (is : turn ≡ Stepped) (turned : Turned (shown_by y.machine.cpu.memory) y.machine z.machine (whole_turn u v) turn) (ended : z.ended ≡ ended_by turn) where
    more : Stepping (made + 1) (gpl_state_of x) x.machine z.machine t v
    more = stepped made p.stepping z.machine v (subst (λ (a : Turn). Turned (shown_by y.machine.cpu.memory) y.machine z.machine (whole_turn u v) a) is turned)

    runs_on : z.ended ≡ None
    runs_on = ended ∙ ap ended_by is

    after_is : gpl_state_of z ≡ (run (made + 1) (gpl_state_of x)).last
    after_is = seen_running z runs_on ∙ more.matches.shows ∙ sym (last_is (made + 1) more z.machine v)

    -- the line that was made is that of the step
    module _ (front line : List ℕ) (number : ℕ) (first : front ≡ step_front number (gpl_state_of y)) (numbered : number ≡ made + 1)
        (ends : line ≡ front ++ (shows kept (seen_state (shown_by z.machine.cpu.memory)) z.machine.count ++ codes "\n")) where
      pub line_is : line ≡ line_after shows (gpl_state_of x) made z.machine.count
      line_is =
          let after : List ℕ = shows kept (seen_state (gpl_state_of z)) z.machine.count ++ codes "\n" in
          let by_count : ShowsChanges = λ a b. shows a b z.machine.count in
          ends
          ∙ ap (λ (f : List ℕ). f ++ after) first
          ∙ ap (λ (n : ℕ). step_front n (gpl_state_of y) ++ after) numbered
          ∙ ap (λ (k : SeenState). step_front (made + 1) (gpl_state_of y) ++ (shows k (seen_state (gpl_state_of z)) z.machine.count ++ codes "\n")) p.kept_is
          ∙ ap (λ (s : GplState). step_line by_count (made + 1) s (gpl_state_of z)) before_is
          ∙ ap (λ (s : GplState). step_line by_count (made + 1) (run made (gpl_state_of x)).last s) after_is

      pub shown : (o2 : SinkState) (kept2 : SeenState) → Wrote o' o2 (line ∷ []) → kept2 ≡ seen_state (shown_by z.machine.cpu.memory) → Playing shows x z t v (made + 1) o o2 kept2
      shown o2 kept2 wrote k = record {
        stepping = more;
        running = runs_on;
        kept_is = k;
        lines = p.lines ++ line ∷ [];
        are_lines =
            subst (λ (m : ℕ). Lined shows (gpl_state_of x) x.machine t m (p.lines ++ line ∷ [])) (next_is made)
            (p.lines, z.machine, v, p.are_lines, more, ap (λ (l : List ℕ). p.lines ++ l ∷ []) line_is);
        wrote = wrote_more o o' o2 p.lines (line ∷ []) p.wrote wrote;
      }

      pub breaks_off : (limit : ℕ) (o2 : SinkState) → made < limit → Missed o' o2 (line ∷ []) → BreaksOff shows limit x z t v o o2
      breaks_off limit o2 less missed =
          let within : made + 1 ≤ (run limit (gpl_state_of x)).done = done_at_least (made + 1) limit (gpl_state_of x) more.now more.steps_are (omega arith) in
          let runs = whole (made + 1) more in
          let done = runs.done_is in
          let least = turns_least (run (made + 1) (gpl_state_of x)).stop (run (made + 1) (gpl_state_of x)).done in
          record {
            shown = made;
            within = omega arith;
            runs = runs;
            running = runs_on;
            between = o';
            wrote = subst (Wrote o o') (lined shows (gpl_state_of x) x.machine t (made + 1) runs.count z.machine runs.runs made (omega (arith, done, least)) p.lines p.are_lines) p.wrote;
            missed = subst (λ (l : List ℕ). Missed o' o2 (l ∷ [])) line_is missed;
          }

-- what was written is a front of the lines of the steps that were made
pub breaks_lines : (shows : ShowsStep) (limit : ℕ) (x y : SessionState) (t u : ℕ) (o o' : SinkState) (b : BreaksOff shows limit x y t u o o') → Missed o o' (lines_by shows (gpl_state_of x) b.runs.runs.machine (b.shown + 1))
breaks_lines shows limit x y t u o o' b =
    let s = gpl_state_of x in
    let machine = b.runs.runs.machine in
    let all : turns (b.shown + 1) s ≡ b.shown + 1 = ap (λ (e : Option Reason). turns_made e (run (b.shown + 1) s).done) (sym b.runs.stop_is) ∙ sym b.runs.done_is in
    let left : y.machine ≡ machine (b.shown + 1) = sym b.runs.runs.last ∙ ap machine all in
    let missed = subst (λ (m : MachineState). Missed b.between o' (line_after shows s b.shown m.count ∷ [])) left b.missed in
    subst (Missed o o') (sym (one_more_line shows s machine b.shown))
    (missed_more o b.between o' (lines_by shows s machine b.shown) (line_after shows s b.shown (machine (b.shown + 1)).count ∷ []) b.wrote missed)

-- of lines of changes alone, it is a front of the lines of more steps
pub front_of_all : (shows : ShowsChanges) (s : GplState) (machine : ℕ → MachineState) (made done : ℕ) (o o' : SinkState) → made ≤ done
    → Missed o o' (lines_by (changes_alone shows) s machine made) → Missed o o' (step_lines shows s done)
front_of_all shows s machine made done o o' le missed =
    let later = lines_after shows s made done le in
    let here : Missed o o' (step_lines shows s made) = subst (Missed o o') (lines_alone shows s machine made) missed in
    subst (Missed o o') (sym later.1) (missed_early o o' (step_lines shows s made) later.0 here)

pub plays_whole : (shows : ShowsStep) (limit made : ℕ) (x y : SessionState) (t u : ℕ) (o o' : SinkState) (kept : SeenState) → made ≡ limit → Playing shows x y t u made o o' kept → PlaysWhole shows limit x y t u o o' limit
plays_whole shows limit made x y t u o o' kept all p =
    let q : Playing shows x y t u limit o o' kept = subst (λ (m : ℕ). Playing shows x y t u m o o' kept) all p in
    let runs : RunsTurns (gpl_state_of x) limit x.machine y.machine t u limit y.ended =
    subst (RunsTurns (gpl_state_of x) limit x.machine y.machine t u limit) (sym q.running) (whole limit q.stepping) in
    record { runs = runs; wrote = wrote_by shows limit x y t u limit o o' q.lines q.are_lines runs q.wrote }
