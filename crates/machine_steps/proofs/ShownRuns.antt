-- Runs of the machine that are shown, line by line.
use Rattle.std.proofs.Common.{◌≡◌, ℕ, suc, ◌+◌, ◌<◌, Bool, true, false, List, [], ◌∷◌, ◌++◌, Some, None, refl, sym, ap, ◌∙◌}
use Rattle.std.proofs.Common.{subst, arith}
use Rattle.std.specs.Prelude.{◌==◌, codes, nat_lt, if◌then◌else◌}
use Rattle.std.proofs.lemmas.Bool.{eq-eqb, ne_eqb}
use Rattle.std.proofs.lemmas.Bool.Decides.{nat_tests}
use Rattle.console_defs.specs.Machine.{MachineState, machine_step}
use Rattle.console_defs.specs.Runs.{after_steps, self_jumped, is_self_jump, end_of_step, end_before, end_at}
use Rattle.console_defs.specs.declared.run_end.RunEnd.{RunEnd}
use Rattle.console_defs.specs.declared.run_end.RunEnd.TheVariants as run
use Rattle.tms_defs.specs.declared.step_end.StepEnd.{StepEnd}
use Rattle.tms_defs.specs.declared.step_end.StepEnd.TheVariants.{Done, Refused, Port}
use Rattle.bench_io.specs.Stream.{SinkState}
use Rattle.bench_io.specs.Written.{Wrote, Missed}
use Rattle.bench_io.proofs.Writes.{wrote_none, wrote_more, missed_more}
use Rattle.report_defs.proofs.Ranges.{mapped_split}
use Rattle.machine_change_defs.specs.Seen.{SeenMemory, seen_memory}
use Rattle.machine_change_defs.specs.Changes.{memory_changes}
use Rattle.machine_change_defs.specs.Text.{changes_text}
use Rattle.machine_change_defs.specs.Lines.{step_front, step_line, line_after, step_lines}
use Rattle.machine_steps.specs.Shown.{ShowsWhole, BreaksOff}

-- the lines of instructions, and the one after them
pub one_more_line : (x : MachineState) (made : ℕ) → step_lines x (made + 1) ≡ step_lines x made ++ line_after x made ∷ []
unfolding step_lines
one_more_line x made = mapped_split (line_after x) made 1

-- So many instructions were executed and shown, and nothing ended the run.
pub record Showing (limit : ℕ) (x y : MachineState) (made : ℕ) (o o' : SinkState) (kept : SeenMemory) : Type 0 where
  pub is : y ≡ after_steps made x
  pub goes : self_jumped made x ≡ false
  pub runs : (before : ℕ) → before < made → end_at None limit before x ≡ None
  pub kept_is : kept ≡ seen_memory y.cpu.memory
  pub wrote : Wrote o o' (step_lines x made)

pub begun : (limit : ℕ) (x : MachineState) (o : SinkState) (kept : SeenMemory) → kept ≡ seen_memory x.cpu.memory → Showing limit x x 0 o o kept
unfolding step_lines
begun limit x o kept is = record {
  is = refl;
  goes = refl;
  runs = λ before less. absurd (omega arith);
  kept_is = is;
  wrote = wrote_none o;
}

module _ (limit : ℕ) (x y : MachineState) (made : ℕ) (o o' : SinkState) (kept : SeenMemory) (p : Showing limit x y made o o' kept) where
  -- what ends the run here is the limit or the next step
  end_here : end_at None limit made x ≡ (if made == limit then Some run.Limit else end_of_step (machine_step y).0)
  end_here =
      ap (λ (j : Bool). if j then Some run.SelfJump else (if made == limit then Some run.Limit else end_of_step (machine_step (after_steps made x)).0)) p.goes
      ∙ ap (λ (z : MachineState). if made == limit then Some run.Limit else end_of_step (machine_step z).0) (sym p.is)

  end_below : made < limit → end_at None limit made x ≡ end_of_step (machine_step y).0
  end_below less =
      end_here ∙ ap (λ (b : Bool). if b then Some run.Limit else end_of_step (machine_step y).0) (ne_eqb made limit (λ e. omega (arith, e)))

  -- the run ends at its limit
  pub limited : made ≡ limit → ShowsWhole limit x y o o' run.Limit
  limited all = record {
    made = made;
    run = record {
      ends = end_here ∙ ap (λ (b : Bool). if b then Some run.Limit else end_of_step (machine_step y).0) (eq-eqb made limit all);
      first = p.runs;
      left = p.is;
    };
    wrote = p.wrote;
  }

  module _ (less : made < limit) (end : StepEnd) (z : MachineState) (stepped : (end, z) ≡ machine_step y) where
    end_is : (machine_step y).0 ≡ end
    end_is = sym (ap (λ (s : StepEnd × MachineState). s.0) stepped)

    next_is : z ≡ after_steps (suc made) x
    next_is = ap (λ (s : StepEnd × MachineState). s.1) stepped ∙ ap (λ (w : MachineState). (machine_step w).1) p.is

    -- a step that executes nothing ends it
    stopped_by : (ending : RunEnd) → end_of_step end ≡ Some ending → z ≡ y → ShowsWhole limit x z o o' ending
    stopped_by ending ends same = record {
      made = made;
      run = record {
        ends = end_below less ∙ ap end_of_step end_is ∙ ends;
        first = p.runs;
        left = same ∙ p.is;
      };
      wrote = p.wrote;
    }

    pub refused : (address : ℕ) → end ≡ Refused address → z ≡ y → ShowsWhole limit x z o o' (run.Refused address)
    refused address is same = stopped_by (run.Refused address) (ap end_of_step is) same

    pub at_port : (address : ℕ) → end ≡ Port address → z ≡ y → ShowsWhole limit x z o o' (run.Port address)
    at_port address is same = stopped_by (run.Port address) (ap end_of_step is) same

    -- an instruction that is executed
    module _ (word : ℕ) (done : end ≡ Done word) (line : List ℕ) (number : ℕ) (numbered : number ≡ made + 1)
        (ends : line ≡ step_front number y ++ (changes_text (memory_changes y.cpu.wp kept (seen_memory z.cpu.memory)) ++ codes "\n")) where
      runs_on : (before : ℕ) → before < made + 1 → end_at None limit before x ≡ None
      runs_on before below = by (nat_lt before made) refl
        where
          by : (b : Bool) → nat_lt before made ≡ b → end_at None limit before x ≡ None
          by true e = p.runs before (grind (arith, nat_tests))
          by false e =
              let here : before ≡ made = grind (arith, nat_tests) in
              ap (λ (n : ℕ). end_at None limit n x) here ∙ end_below less ∙ ap end_of_step (end_is ∙ done)

      line_is : line ≡ line_after x made
      line_is =
          ends
          ∙ ap (λ (n : ℕ). step_front n y ++ (changes_text (memory_changes y.cpu.wp kept (seen_memory z.cpu.memory)) ++ codes "\n")) numbered
          ∙ ap (λ (k : SeenMemory). step_front (made + 1) y ++ (changes_text (memory_changes y.cpu.wp k (seen_memory z.cpu.memory)) ++ codes "\n")) p.kept_is
          ∙ ap (λ (w : MachineState). step_line (made + 1) w z) p.is
          ∙ ap (λ (w : MachineState). step_line (made + 1) (after_steps made x) w) next_is

      jumped_is : self_jumped (suc made) x ≡ is_self_jump (Done word)
      jumped_is = ap (λ (w : MachineState). is_self_jump (machine_step w).0) (sym p.is) ∙ ap is_self_jump (end_is ∙ done)

      all_lines : (o2 : SinkState) → Wrote o' o2 (line ∷ []) → Wrote o o2 (step_lines x (made + 1))
      all_lines o2 wrote =
          subst (Wrote o o2) (ap (λ (l : List ℕ). step_lines x made ++ l ∷ []) line_is ∙ sym (one_more_line x made))
          (wrote_more o o' o2 (step_lines x made) (line ∷ []) p.wrote wrote)

      next_number : suc made ≡ made + 1
      next_number = omega arith

      pub breaks_off : (o2 : SinkState) → Missed o' o2 (line ∷ []) → BreaksOff limit x z o o2
      breaks_off o2 missed = record {
        made = made + 1;
        runs = runs_on;
        missed = subst (Missed o o2) (ap (λ (l : List ℕ). step_lines x made ++ l ∷ []) line_is ∙ sym (one_more_line x made))
            (missed_more o o' o2 (step_lines x made) (line ∷ []) p.wrote missed);
      }

      pub jumped : (o2 : SinkState) → Wrote o' o2 (line ∷ []) → word ≡ 0x10FF → ShowsWhole limit x z o o2 run.SelfJump
      jumped o2 wrote self = record {
        made = made + 1;
        run = record {
          ends = ap (λ (n : ℕ). end_at None limit n x) (sym next_number)
              ∙ ap (λ (j : Bool). if j then Some run.SelfJump else end_before None limit (suc made) (after_steps (suc made) x)) (jumped_is ∙ eq-eqb word 0x10FF self);
          first = runs_on;
          left = next_is ∙ ap (λ (n : ℕ). after_steps n x) next_number;
        };
        wrote = all_lines o2 wrote;
      }

      pub shown : (o2 : SinkState) (kept2 : SeenMemory) → Wrote o' o2 (line ∷ []) → (word ≡ 0x10FF → ⊥) → kept2 ≡ seen_memory z.cpu.memory
          → Showing limit x z (made + 1) o o2 kept2
      shown o2 kept2 wrote other k = record {
        is = next_is ∙ ap (λ (n : ℕ). after_steps n x) next_number;
        goes = ap (λ (n : ℕ). self_jumped n x) (sym next_number) ∙ jumped_is ∙ ne_eqb word 0x10FF other;
        runs = runs_on;
        kept_is = k;
        wrote = all_lines o2 wrote;
      }
