-- Programs whose items are watched, step by step.
use Rattle.std.proofs.Common.{◌≡◌, ℕ, zero, suc, ◌+◌, ◌<◌, ◌≤◌, List, [], Option, Some, None, Result, Ok, Err}
use Rattle.std.proofs.Common.{refl, sym, ap, ◌∙◌, subst, arith}
use Rattle.std.specs.Prelude.{slice_get, option_map}
use Rattle.console_defs.specs.Machine.{MachineState}
use Rattle.gpl_step_defs.specs.declared.reason.Reason.{Reason}
use Rattle.gpl_step_defs.specs.State.{GplState}
use Rattle.gpl_step_defs.specs.Step.{step}
use Rattle.gpl_step_defs.specs.Run.{run, turns}
use Rattle.interp_defs.specs.declared.turn.Turn.{Turn}
use Rattle.interp_defs.specs.declared.turn.Turn.TheVariants.{Stepped, Stopped}
use Rattle.interp_defs.specs.Match.{IsMatching, shown_by}
use Rattle.interp_defs.specs.Turned.{Turned, TurnedBy, whole_turn}
use Rattle.interp_defs.specs.Programs.{RunsSteps}
use Rattle.sim_steps.specs.Running.{RunsTurns}
use Rattle.sim_steps.proofs.TurnRuns.{Stepping, none_yet, stepped, stopped, whole, last_is, done_at_least}
use Rattle.gpl_run.specs.Sessions.{SessionState, IsSession, gpl_state_of, address_in, ended_by}
use Rattle.watch_defs.specs.declared.item.Item.{Item}
use Rattle.watch_defs.specs.declared.found.Found.{Found}
use Rattle.watch_defs.specs.declared.found.Found.TheVariants as result
use Rattle.watch_defs.specs.Items.{change_since}
use Rattle.watch_defs.specs.Hits.{state_after, change_at, hit_at, hits, found}
use Rattle.watch_defs.proofs.Hits.{hit_is, none_more, first_found, none_found}
use Rattle.gpl_watch.specs.Watches.{WatchedItem, watching, items_of, Keeps, at_address, first_kept}
use Rattle.gpl_watch.specs.Watches.{bounds, RunsWithin, Watches}
use Rattle.gpl_watch.proofs.Kept.{keeps, first_is, change_kept, still_kept, same_watching}

seen_running : (t : SessionState) → t.ended ≡ None → gpl_state_of t ≡ shown_by t.machine.cpu.memory
seen_running t e =
    ap (λ (o : Option Reason). record (shown_by t.machine.cpu.memory) { pc = address_in o t.machine }) e

matches_of : (t : SessionState) → t.ended ≡ None → IsSession t.machine t.ended → IsMatching t.machine
matches_of t e h = subst (IsSession t.machine) e h

-- the instructions of turns are at most as many as their bounds allow
turns_bounded : {s : GplState} {limit count : ℕ} {x y : MachineState} (r : RunsSteps s limit count x y) (i : ℕ)
    → i ≤ turns limit s → r.instructions i ≤ bounds i s
turns_bounded r zero within = let none = r.none in omega arith
turns_bounded r (suc i) within =
    let earlier = turns_bounded r i (omega (arith, within)) in
    let turn = r.machines.next i (omega (arith, within)) in
    let more : i + 1 ≡ suc i = omega arith in
    let sum = ap r.instructions (sym more) ∙ turn.adds in
    let one = turn.within in
    omega arith

within_bounds : (limit : ℕ) (x y : SessionState) (before after done : ℕ)
    → RunsTurns (gpl_state_of x) limit x.machine y.machine before after done y.ended
    → RunsWithin limit x y before after done
within_bounds limit x y before after done r =
    let few = turns_bounded r.runs (turns limit (gpl_state_of x)) (omega arith) in
    let all = r.runs.all in
    let sum = r.counted in
    record { runs = r; within = omega arith }

-- with as many steps as the run makes
within_run : (limit : ℕ) (x y : SessionState) (before after done : ℕ)
    → RunsTurns (gpl_state_of x) limit x.machine y.machine before after done y.ended
    → Watches limit x y before after result.None
within_run limit x y before after done r =
    within_bounds limit x y before after (run limit (gpl_state_of x)).done
    (subst (λ (n : ℕ). RunsTurns (gpl_state_of x) limit x.machine y.machine before after n y.ended) r.done_is r)

-- So many steps were made, and no item held at any of them.
pub record Watching (items : List Item) (x y : SessionState) (t u made : ℕ) (watched : List WatchedItem) : Type 0 where
  pub stepping : Stepping made (gpl_state_of x) x.machine y.machine t u
  pub running : y.ended ≡ None
  pub kept : watched ≡ watching items (gpl_state_of y)
  pub none : hits items (gpl_state_of x) made ≡ []

pub begun : (x : SessionState) (t : ℕ) (watched : List WatchedItem) → x.ended ≡ None
    → IsSession x.machine x.ended → Keeps watched (gpl_state_of x) → Watching (items_of watched) x x t t 0 watched
begun x t watched e h is = record {
  stepping =
      subst (λ (s : GplState). Stepping 0 s x.machine x.machine t t) (sym (seen_running x e))
      (none_yet (matches_of x e h));
  running = e;
  kept = is;
  none = refl;
}

-- a stop shows the cells and the video memory that were shown before
halted_by : (items : List Item) (z w : MachineState) (u v : ℕ) (reason : Reason) (r : Result GplState Reason)
    → TurnedBy r (shown_by z.cpu.memory) z w (whole_turn u v) (Stopped reason)
    → watching items (shown_by z.cpu.memory) ≡ watching items (shown_by w.cpu.memory)
halted_by items z w u v reason (Ok next) t = absurd (let a = t.0 in cc)
halted_by items z w u v reason (Err other) t =
    same_watching items (shown_by z.cpu.memory) (shown_by w.cpu.memory) (sym t.2.cells) (sym t.2.vdp)

-- the first that holds, where the address that a session is at is known
pub first_reported : (z : SessionState) (watched : List WatchedItem) {pc : ℕ} {o : Option ℕ}
    → pc ≡ address_in z.ended z.machine → o ≡ first_kept (at_address pc (gpl_state_of z)) watched
    → first_kept (gpl_state_of z) watched ≡ o
first_reported z watched e is = sym (is ∙ ap (λ (n : ℕ). first_kept (at_address n (gpl_state_of z)) watched) e)

module _ {items : List Item} {x y : SessionState} {t u made : ℕ} {watched : List WatchedItem} (z : SessionState)
    (v : ℕ) (p : Watching items x y t u made watched) where
  -- the state before the step
  before_is : gpl_state_of y ≡ state_after (gpl_state_of x) made
  before_is =
      seen_running y p.running ∙ p.stepping.matches.shows
      ∙ sym (last_is made p.stepping z.machine v)

  -- a turn from there
  abbrev pub Made : Turn → Type 0
  Made turn = Turned (shown_by y.machine.cpu.memory) y.machine z.machine (whole_turn u v) turn

  -- a step that stops
  module _ {turn : Turn} {reason : Reason} (is : turn ≡ Stopped reason) (turned : Made turn)
      (ended : z.ended ≡ ended_by turn) where
    abbrev stops : Made (Stopped reason)
    stops = subst Made is turned

    stops_run : (limit : ℕ) → made < limit → RunsTurns (gpl_state_of x) limit x.machine z.machine t v made z.ended
    stops_run limit less =
        subst (RunsTurns (gpl_state_of x) limit x.machine z.machine t v made) (sym (ended ∙ ap ended_by is))
        (stopped made p.stepping z.machine v limit reason less stops)

    pub stops_runs : (limit : ℕ) → made < limit → Watches limit x z t v result.None
    stops_runs limit less = within_run limit x z t v made (stops_run limit less)

    pub stops_found : (limit : ℕ) → made < limit → found items limit (gpl_state_of x) ≡ result.None
    stops_found limit less = none_found items (gpl_state_of x) made limit p.none (stops_run limit less).done_is

    pub stops_kept : Keeps watched (gpl_state_of z)
    stops_kept =
        keeps items (gpl_state_of z) watched
        (p.kept ∙ same_watching items (gpl_state_of y) (shown_by y.machine.cpu.memory) refl refl
        ∙ halted_by items y.machine z.machine u v reason (step (shown_by y.machine.cpu.memory)) stops
        ∙ same_watching items (shown_by z.machine.cpu.memory) (gpl_state_of z) refl refl)

  -- a step that is made
  module _ {turn : Turn} (is : turn ≡ Stepped) (turned : Made turn) (ended : z.ended ≡ ended_by turn) where
    more : Stepping (made + 1) (gpl_state_of x) x.machine z.machine t v
    more = stepped made p.stepping z.machine v (subst Made is turned)

    runs_on : z.ended ≡ None
    runs_on = ended ∙ ap ended_by is

    after_is : gpl_state_of z ≡ state_after (gpl_state_of x) (made + 1)
    after_is =
        seen_running z runs_on ∙ more.matches.shows
        ∙ sym (last_is (made + 1) more z.machine v)

    -- the hit of the step, if it has one, by the place of the item
    hit_by : ℕ → Found
    hit_by place = result.Hit (made + 1) (gpl_state_of y).pc (place + 1) (change_at items place (gpl_state_of y) (gpl_state_of z))

    hit_of : (o : Option ℕ) → first_kept (gpl_state_of z) watched ≡ o → hit_at items (gpl_state_of x) (made + 1) ≡ option_map hit_by o
    unfolding hit_by
    hit_of o first =
        hit_is items (gpl_state_of x) made (gpl_state_of y) (gpl_state_of z) before_is after_is
        ∙ ap (option_map hit_by) (sym (first_is items (gpl_state_of y) watched (gpl_state_of z) p.kept) ∙ first)

    -- no item holds
    pub goes_on : first_kept (gpl_state_of z) watched ≡ None → Watching items x z t v (made + 1) watched
    goes_on none = record {
      stepping = more;
      running = runs_on;
      kept =
          still_kept items (gpl_state_of y) (gpl_state_of z) watched p.kept
          (sym (first_is items (gpl_state_of y) watched (gpl_state_of z) p.kept) ∙ none);
      none = none_more items (gpl_state_of x) made p.none (hit_of None none);
    }

    -- an item holds
    pub hit_runs : (limit : ℕ) {from number : ℕ} {change : Option (ℕ × ℕ)} {hit : Found}
        → hit ≡ result.Hit (made + 1) from number change → Watches limit x z t v hit
    hit_runs limit is =
        subst (Watches limit x z t v) (sym is) (
          within_bounds (made + 1) x z t v (made + 1)
              (subst (RunsTurns (gpl_state_of x) (made + 1) x.machine z.machine t v (made + 1)) (sym runs_on)
              (whole (made + 1) more)),
          runs_on,
        )

    pub hit_found : (place limit : ℕ) {w : WatchedItem} {hit : Found} {from : ℕ} {shown : Option (ℕ × ℕ)}
        → first_kept (gpl_state_of z) watched ≡ Some place → made < limit → slice_get watched place ≡ Some w
        → hit ≡ result.Hit (made + 1) from (place + 1) shown → from ≡ address_in y.ended y.machine
        → shown ≡ change_since w.item w.kept (gpl_state_of z) → hit ≡ found items limit (gpl_state_of x)
    unfolding hit_by
    hit_found place limit {w} {hit} {from} {shown} first less at is from_is shown_is =
        is ∙ ap (λ n. result.Hit (made + 1) n (place + 1) shown) from_is
        ∙ ap (λ (c : Option (ℕ × ℕ)). result.Hit (made + 1) (gpl_state_of y).pc (place + 1) c)
        (shown_is ∙ change_kept items (gpl_state_of y) watched (gpl_state_of z) place w p.kept at)
        ∙ sym (first_found items (gpl_state_of x) made limit (hit_by place) p.none (hit_of (Some place) first)
        (done_at_least (made + 1) limit (gpl_state_of x) more.now more.steps_are (omega arith)))

-- all steps were made, and no item held
module _ {items : List Item} {limit made : ℕ} {x y : SessionState} {t u : ℕ} {watched : List WatchedItem}
    (all : made ≡ limit) (p : Watching items x y t u made watched) where
  all_made : Watching items x y t u limit watched
  all_made = subst (λ (m : ℕ). Watching items x y t u m watched) all p

  all_run : RunsTurns (gpl_state_of x) limit x.machine y.machine t u limit y.ended
  all_run =
      subst (RunsTurns (gpl_state_of x) limit x.machine y.machine t u limit) (sym all_made.running)
      (whole limit all_made.stepping)

  pub all_runs : Watches limit x y t u result.None
  all_runs = within_run limit x y t u limit all_run

  pub none_is_found : found items limit (gpl_state_of x) ≡ result.None
  none_is_found = none_found items (gpl_state_of x) limit limit all_made.none all_run.done_is
