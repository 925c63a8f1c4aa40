-- How a run of `steps` ends.
use Rattle.std.proofs.Common.{◌≡◌, ◌⊎◌, ℕ, List, ◌++◌, Result, Ok, Err, refl, sym, ◌∙◌, subst, inl, inr}
use Rattle.console_defs.specs.Machine.{MachineState}
use Rattle.console_defs.specs.declared.run_end.RunEnd.{RunEnd}
use Rattle.console_defs.specs.declared.run_end.RunEnd.TheVariants as ending
use Rattle.link_defs.specs.LinkedMemory.{LinkedMemory}
use Rattle.report_defs.specs.declared.status.Status.{Status}
use Rattle.report_defs.specs.declared.status.Status.TheVariants as status
use Rattle.report_defs.specs.Exec.{IsStart, end_status}
use Rattle.report_defs.specs.ObjectInput.{linked_input}
use Rattle.report_defs.specs.Report.{Report, Whole}
use Rattle.machine_change_defs.specs.Lines.{step_lines}
use Rattle.machine_change_defs.specs.Reports.{StepsReport, StepsFront}
use Rattle.reports.specs.Outputs.{Outputs, WroteReport, EndsWith}
use Rattle.reports.specs.Answers.{WantsMemory, Reported, Ends}
use Rattle.bench_commands.specs.LinkedInput.{RejectsAs}
use Rattle.machine_steps.specs.Shown.{BreaksOff}
use Rattle.debug_commands.specs.Written.{run_lines, WritesWhole, MissesSome}
use Rattle.debug_commands.specs.Ends.{EndsInstructions}

-- a report that was written ends by its own status
ends_whole : (o : Outputs) (lines : List (List ℕ)) (found : RunEnd) → WroteReport o (Whole (end_status found) lines) → EndsWith o (Whole (end_status found) lines) (end_status found)
ends_whole o lines ending.Limit w = (refl, w)
ends_whole o lines ending.SelfJump w = (refl, w)
ends_whole o lines (ending.Refused at) w = (refl, w)
ends_whole o lines (ending.Port at) w = (refl, w)
ends_whole o lines ending.Reached w = (refl, w)

rejects : (limit : ℕ) (linked : Result LinkedMemory (List ℕ)) (report : Report) → RejectsAs linked report → StepsReport limit linked report
rejects limit linked report (line, refused, is) = subst (λ l. StepsReport limit l report) (sym refused) is

-- an input that is not executed
pub by_refusal : (limit : ℕ) (input : List ℕ) (o : Outputs) (answer : Result Report Status) (end : Status)
    → Reported (RejectsAs (linked_input input)) WantsMemory answer → Ends o answer end → EndsInstructions limit input o end
by_refusal limit input o (Ok report) end is ends = inl (Ok report, rejects limit (linked_input input) report is, ends)
by_refusal limit input o (Err own) end is ends = inl (Err own, is, ends)

-- memory ran out
pub by_memory : (limit : ℕ) (input : List ℕ) (o : Outputs) (end : Status) → Ends o (Err status.Memory) end → EndsInstructions limit input o end
by_memory limit input o end ends = inl (Err status.Memory, refl, ends)

module _ (limit : ℕ) (input : List ℕ) (linked : LinkedMemory) (is : linked_input input ≡ Ok linked) (x y : MachineState) (start : IsStart linked x) (o : Outputs) (silent : o.err' ≡ o.err) where
  -- the report was written
  pub by_whole : (found : RunEnd) → WritesWhole limit x y o.out o.out' found → EndsInstructions limit input o (end_status found)
  by_whole found w =
      let lines = run_lines x w.made found y in
      inl (
        Ok (Whole (end_status found) lines),
        subst (λ l. StepsReport limit l (Whole (end_status found) lines)) (sym is)
            (record { ending = found; left = y; executes = record { start = x; is_start = start; made = w.made; run = w.run }; is = refl }),
        ends_whole o lines found (w.wrote, silent),
      )

  -- a line of an instruction could not be written
  pub by_break : BreaksOff limit x y o.out o.out' → EndsInstructions limit input o status.WriteFault
  by_break b =
      let front = Whole status.Done (step_lines x b.made) in
      inr (
        front,
        subst (λ l. StepsFront limit l front) (sym is) (record { start = x; is_start = start; made = b.made; runs = b.runs; is = refl }),
        refl,
        (b.missed, silent),
      )

  -- a line after those could not be written
  pub by_miss : MissesSome limit x y o.out o.out' → EndsInstructions limit input o status.WriteFault
  by_miss m =
      let lines = run_lines x m.made m.ending y in
      inl (
        Ok (Whole (end_status m.ending) lines),
        subst (λ l. StepsReport limit l (Whole (end_status m.ending) lines)) (sym is)
            (record { ending = m.ending; left = y; executes = record { start = x; is_start = start; made = m.made; run = m.run }; is = refl }),
        (m.missed, silent),
      )

  -- a line could not be written
  pub by_failed : BreaksOff limit x y o.out o.out' ⊎ MissesSome limit x y o.out o.out' → EndsInstructions limit input o status.WriteFault
  by_failed (inl b) = by_break b
  by_failed (inr m) = by_miss m
