-- How many instructions a program takes at most.
use Rattle.std.proofs.Common.{◌≡◌, ℕ, zero, suc, ◌+◌, ◌*◌, ◌^◌, ◌≤◌, ◌<◌, List, Bool, true, false, Option, Some, None, Result, Ok, Err, refl, sym, ap, ◌∙◌, subst, arith}
use Rattle.std.specs.Prelude.{nat_lt, if◌then◌else◌}
use Rattle.std.proofs.lemmas.Bool.Decides.{nat_tests}
use Rattle.source_defs.specs.Refusals.{◌>>=◌}
use Rattle.base_defs.specs.Counts.{saturating_sum}
use Rattle.console_defs.specs.Machine.{MachineState}
use Rattle.gpl_defs.specs.declared.instruction.GplInstr.{GplInstr}
use Rattle.gpl_defs.specs.declared.instruction.GplInstr.TheVariants as instr
use Rattle.gpl_defs.specs.declared.instruction.ByteOp.TheVariants.{ALL}
use Rattle.gpl_defs.specs.declared.instruction.MoveLength.{MoveLength}
use Rattle.gpl_defs.specs.declared.instruction.GplRead.{GplRead}
use Rattle.gpl_defs.specs.declared.instruction.GplRead.TheVariants.{Instr, Refused}
use Rattle.gpl_defs.specs.Reading.{reading}
use Rattle.gpl_step_defs.specs.declared.reason.Reason.{Reason}
use Rattle.gpl_step_defs.specs.declared.reason.Reason.TheVariants.{Length}
use Rattle.gpl_step_defs.specs.State.{GplState, start}
use Rattle.gpl_step_defs.specs.Changes.{Changes}
use Rattle.gpl_step_defs.specs.Copy.{Moving, length_of, within_limit}
use Rattle.gpl_step_defs.specs.Place.{Place, further, byte_in, byte_at, pointed, indexed, ranged}
use Rattle.gpl_defs.specs.declared.instruction.Space.{Space}
use Rattle.gpl_defs.specs.declared.instruction.Space.TheVariants.{Cpu, Vdp}
use Rattle.tms_defs.specs.Words.{join}
use Rattle.gpl_defs.specs.declared.instruction.MoveLength.TheVariants as counted
use Rattle.gpl_step_defs.specs.Step.{step, executed, after}
use Rattle.gpl_step_defs.specs.Run.{run, turns, bound, bound_of, bound_at, bound_by, bytes_or_none, turns_made}
use Rattle.interp_defs.specs.Programs.{RunsProgram}
use Rattle.gpl_counts.specs.Counts.{most_shown_steps}
use Rattle.gpl_counts.specs.Laws.{CountsAreInstructions, CountsAreBounded, bound_of_step}
use Rattle.gpl_counts.proofs.Counts.{run_by, turns_least, turns_most, counts, shorter, machines}

-- ---- another pc makes no difference to a length

abbrev at_pc : GplState → ℕ → GplState
at_pc s n = record s { pc = n }

module _ (s : GplState) (n : ℕ) where
  byte_same : (space : Space) (at : ℕ) → byte_in space (at_pc s n) at ≡ byte_in space s at
  byte_same Cpu at = refl
  byte_same Vdp at = refl

  pointed_same : (on : Bool) (at : ℕ) → pointed (at_pc s n) on at ≡ pointed s on at
  pointed_same false at = refl
  pointed_same true at = refl

  indexed_same : (index : Option ℕ) (at : ℕ) → indexed (at_pc s n) index at ≡ indexed s index at
  indexed_same None at = refl
  indexed_same (Some offset) at = refl

  value_same : (p : Place) → join (byte_at (at_pc s n) p) (byte_at (at_pc s n) (further 1 p)) ≡ join (byte_at s p) (byte_at s (further 1 p))
  value_same p = λ i. join (byte_same p.space p.address i) (byte_same p.space (further 1 p).address i)

  length_same : (l : MoveLength) → length_of (at_pc s n) l ≡ length_of s l
  length_same (counted.At o) =
      λ i. (pointed_same o.indirect o.address i >>= λ base. indexed_same o.index base i >>= λ at. ranged 2 o.space at) >>= λ p. Ok (value_same p i)
  length_same (counted.Immediate count) = refl

-- ---- no step has more instructions

-- a length that is refused ends what follows it
small_length : (count : Result ℕ Reason) (f : ℕ → Result Moving Reason) (g : Moving → Result Changes Reason)
    (h : Changes → Result GplState Reason) (y : GplState)
    → (((count >>= λ n. within_limit n >>= f) >>= g) >>= h) ≡ Ok y → bytes_or_none count ≤ 16384
small_length (Err reason) f g h y is = omega arith
small_length (Ok n) f g h y is = by (nat_lt 16384 n) refl is
  where
    by : (large : Bool) → nat_lt 16384 n ≡ large → ((((if large then Err Length else Ok n) >>= f) >>= g) >>= h) ≡ Ok y → n ≤ 16384
    by true l e = absurd (cc)
    by false l e = grind (arith, nat_tests)

instr_bound : (found : GplInstr) (next : ℕ) (s y : GplState) → after found next s ≡ Ok y → bound_of found s ≤ bound_of_step
unfolding after
instr_bound (instr.Move l to from) next s y is =
    let small : bytes_or_none (length_of (at_pc s next) l) ≤ 16384 = small_length (length_of (at_pc s next) l) _ _ _ y is in
    let here : bytes_or_none (length_of s l) ≤ 16384 = subst (λ (r : Result ℕ Reason). bytes_or_none r ≤ 16384) (length_same s next l) small in
    omega (arith, here)
instr_bound (instr.Byte ALL value) next s y is = omega arith
instr_bound (instr.Byte _ value) next s y is = omega arith
instr_bound _ next s y is = omega arith

read_bound : (read : GplRead) (s y : GplState) → executed read s ≡ Ok y → bound_at read s ≤ bound_of_step
read_bound (Instr found next) s y is = instr_bound found next s y is
read_bound (Refused code) s y is = omega arith

step_bound : (s y : GplState) → step s ≡ Ok y → bound s ≤ bound_of_step
step_bound s y is =
    subst (λ (r : Result GplState Reason). bound_by r s ≤ bound_of_step) (sym is) (read_bound (reading s.image s.pc) s y is)

stop_bound : (s : GplState) (reason : Reason) → step s ≡ Err reason → bound s ≤ 400
stop_bound s reason is = subst (λ (r : Result GplState Reason). bound_by r s ≤ 400) (sym is) (omega arith)

-- ---- nor has a run

-- the step after a number of steps that were made, fewer than all
step_made : (limit : ℕ) (s : GplState) (i : ℕ) → i < (run limit s).done → (y : GplState) × (step (run i s).last ≡ Ok y)
step_made zero s i below = absurd (omega (arith, below))
step_made (suc limit) s i below = by (λ next j less. step_made limit next j less) (step s) refl i below
  where
    by : ((next : GplState) (j : ℕ) → j < (run limit next).done → (y : GplState) × (step (run j next).last ≡ Ok y))
        → (r : Result GplState Reason) → step s ≡ r → (i : ℕ) → i < (run_by limit s r).done
        → (y : GplState) × (step (run i s).last ≡ Ok y)
    by go (Ok next) is zero less = (next, is)
    by go (Ok next) is (suc j) less =
        let r = go next j (omega (arith, less)) in
        (r.0, subst (λ (q : Result GplState Reason). step (run_by j s q).last ≡ Ok r.0) (sym is) r.1)
    by go (Err reason) is i less = absurd (omega (arith, less))

reason_in : Reason → Option Reason → Reason
reason_in other None = other
reason_in other (Some reason) = reason

same_reason : (a b : Reason) → Some a ≡ Some b → a ≡ b
unfolding reason_in
same_reason a b e = ap (reason_in a) e

-- a run that stops does so by its next step
step_stops : (limit : ℕ) (s : GplState) (reason : Reason) → (run limit s).stop ≡ Some reason → step (run (run limit s).done s).last ≡ Err reason
step_stops zero s reason is = absurd (cc)
step_stops (suc limit) s reason is = by (λ next e. step_stops limit next reason e) (step s) refl is
  where
    by : ((next : GplState) → (run limit next).stop ≡ Some reason → step (run (run limit next).done next).last ≡ Err reason)
        → (r : Result GplState Reason) → step s ≡ r → (run_by limit s r).stop ≡ Some reason
        → step (run (run_by limit s r).done s).last ≡ Err reason
    by go (Ok next) is e =
        let more : (run limit next).done + 1 ≡ suc (run limit next).done = omega arith in
        subst (λ (k : ℕ). step (run k s).last ≡ Err reason) (sym more)
        (subst (λ (q : Result GplState Reason). step (run_by (run limit next).done s q).last ≡ Err reason) (sym is) (go next e))
    by go (Err other) is e = is ∙ ap (λ (k : Reason). Err k) (same_reason other reason e)

-- no more steps are made than the limit
done_within : (limit : ℕ) (s : GplState) → (run limit s).done ≤ limit
done_within zero s = omega arith
done_within (suc limit) s = by (λ next. done_within limit next) (step s)
  where
    by : ((next : GplState) → (run limit next).done ≤ limit) → (r : Result GplState Reason) → (run_by limit s r).done ≤ suc limit
    by go (Ok next) = let within = go next in omega (arith, within)
    by go (Err reason) = omega arith

-- a count that saturates is no more than the sum, is the sum if that is small, and rises by no more than a summand
at_most : (n : ℕ) → saturating_sum 0 n ≤ n
at_most n = omega arith

sum_is : (n : ℕ) → n < 2 ^ 64 → saturating_sum 0 n ≡ n
sum_is n small = omega (arith, small)

raised_by : (n by : ℕ) → saturating_sum 0 (n + by) ≤ saturating_sum 0 n + by
raised_by n by = omega arith

module _ {image : List ℕ} {entry limit : ℕ} {left : MachineState} (p : RunsProgram image entry limit left) where
  abbrev s : GplState
  s = start image entry

  -- boot and the first steps
  made_bound : (i : ℕ) → i ≤ (run limit s).done → p.instructions i ≤ 400 + i * bound_of_step
  made_bound zero within = omega (arith, p.within)
  made_bound (suc i) within =
      let least : (run limit s).done ≤ turns limit s = turns_least (run limit s).stop (run limit s).done in
      let t = p.machines.next i (omega (arith, within, least)) in
      let before = made_bound i (omega (arith, within)) in
      let made = step_made limit s i (omega (arith, within)) in
      let turn : bound (run i s).last ≤ bound_of_step = step_bound (run i s).last made.0 made.1 in
      let more : i + 1 ≡ suc i = omega arith in
      let next : p.instructions (i + 1) ≤ 400 + (i + 1) * bound_of_step = omega (arith, before, turn, t.within, t.adds) in
      subst (λ k. p.instructions k ≤ 400 + k * bound_of_step) more next

  -- a run that goes on has as many turns as steps, and one that stops has one more
  all_made : (run limit s).stop ≡ None → turns limit s ≡ (run limit s).done
  all_made is = ap (λ (o : Option Reason). turns_made o (run limit s).done) is

  one_stops : (reason : Reason) → (run limit s).stop ≡ Some reason → turns limit s ≡ (run limit s).done + 1
  one_stops reason is = ap (λ (o : Option Reason). turns_made o (run limit s).done) is

  last_bound : (reason : Reason) → (run limit s).stop ≡ Some reason → bound (run (run limit s).done s).last ≤ 400
  last_bound reason is = stop_bound (run (run limit s).done s).last reason (step_stops limit s reason is)

  -- and the stop
  all_bound : (stop : Option Reason) → (run limit s).stop ≡ stop
      → p.instructions (turns limit s) ≤ 400 + (run limit s).done * bound_of_step + 400
  all_bound None is =
      let all = all_made is in
      let here = made_bound (run limit s).done (omega arith) in
      subst (λ k. p.instructions k ≤ 400 + (run limit s).done * bound_of_step + 400) (sym all) (omega (arith, here))
  all_bound (Some reason) is =
      let all = one_stops reason is in
      let here = made_bound (run limit s).done (omega arith) in
      let t = p.machines.next (run limit s).done (omega (arith, all)) in
      let turn = last_bound reason is in
      subst (λ k. p.instructions k ≤ 400 + (run limit s).done * bound_of_step + 400) (sym all) (omega (arith, here, turn, t.within, t.adds))

  -- the count at the end
  left_is : left.count ≡ (p.machine (turns limit s)).count
  left_is = ap (λ (x : MachineState). x.count) (sym p.last)

  left_bound : left.count ≤ 400 + (run limit s).done * bound_of_step + 400
  left_bound =
      let n = turns limit s in
      let same = left_is in
      let counted = counts p n (omega arith) in
      let all = all_bound (run limit s).stop refl in
      let sum = at_most (p.instructions n) in
      omega (arith, same, counted, all, sum)

  limit_bound : left.count ≤ 400 + limit * bound_of_step + 400
  limit_bound =
      let made = left_bound in
      let within = done_within limit s in
      omega (arith, made, within)

  -- after each turn there were no more instructions than at the end
  turn_bound : (i : ℕ) → i ≤ turns limit s → p.instructions i ≤ 400 + (run limit s).done * bound_of_step + 400
  turn_bound i within = by (nat_lt (run limit s).done i) refl
    where
      by : (late : Bool) → nat_lt (run limit s).done i ≡ late → p.instructions i ≤ 400 + (run limit s).done * bound_of_step + 400
      by false is =
          let early : i ≤ (run limit s).done = grind (arith, nat_tests) in
          let here = made_bound i early in
          omega (arith, here, early)
      by true is =
          let beyond : (run limit s).done < i = grind (arith, nat_tests) in
          let most = turns_most (run limit s).stop (run limit s).done in
          let all : turns limit s ≡ i = omega (arith, beyond, within, most) in
          subst (λ k. p.instructions k ≤ 400 + (run limit s).done * bound_of_step + 400) all (all_bound (run limit s).stop refl)

  exact : limit ≤ most_shown_steps → (i : ℕ) → i ≤ turns limit s → (p.machine i).count ≡ p.instructions i
  exact few i within =
      let most = turn_bound i within in
      let made = done_within limit s in
      counts p i within ∙ sum_is (p.instructions i) (omega (arith, few, most, made))

  within_bound : (i : ℕ) → i < turns limit s → (p.machine (i + 1)).count ≤ (p.machine i).count + bound (run i s).last
  within_bound i below =
      let t = p.machines.next i below in
      let before = counts p i (omega (arith, below)) in
      let further = counts p (i + 1) (omega (arith, below)) in
      let raised = raised_by (p.instructions i) t.turn in
      let adds : saturating_sum 0 (p.instructions (i + 1)) ≡ saturating_sum 0 (p.instructions i + t.turn) = ap (saturating_sum 0) t.adds in
      let sum : (p.machine (i + 1)).count ≤ (p.machine i).count + t.turn = omega (arith, before, further, adds, raised) in
      omega (arith, sum, t.within)

  last_count : (run limit s).stop ≡ None → (p.machine (run limit s).done).count ≡ left.count
  last_count is = ap (λ (k : ℕ). (p.machine k).count) (sym (all_made is)) ∙ sym left_is

  stop_count : left.count ≤ (p.machine (run limit s).done).count + 400
  stop_count = by (run limit s).stop refl
    where
      by : (stop : Option Reason) → (run limit s).stop ≡ stop → left.count ≤ (p.machine (run limit s).done).count + 400
      by None is = let same = last_count is in omega (arith, same)
      by (Some reason) is =
          let all = one_stops reason is in
          let rise = within_bound (run limit s).done (omega (arith, all)) in
          let few = last_bound reason is in
          let here : (p.machine (turns limit s)).count ≡ (p.machine ((run limit s).done + 1)).count = ap (λ (k : ℕ). (p.machine k).count) all in
          let same = left_is in
          omega (arith, rise, few, here, same)

pub counts_are_bounded : CountsAreBounded
counts_are_bounded =
    record {
      made = λ image entry limit left p. left_bound p;
      limited = λ image entry limit left p. limit_bound p;
    }

pub counts_are_instructions : CountsAreInstructions
counts_are_instructions =
    record {
      shorter = λ p i within. shorter p i within;
      machines = λ p i within other q. machines p i within other q;
      counts = λ p i within. counts p i within;
      exact = λ p few i within. exact p few i within;
      within = λ p i below. within_bound p i below;
      last = λ p is. last_count p is;
      stop = λ p. stop_count p;
    }
