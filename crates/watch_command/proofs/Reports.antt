-- Reports of programs whose items were watched.
use Rattle.std.proofs.Common.{◌≡◌, ℕ, List, ◌∷◌, ◌++◌, Option, None, ap, ap₂, ◌∙◌, subst}
use Rattle.console_defs.specs.Memory.{IsMemory}
use Rattle.console_defs.specs.Machine.{MachineState, IsMachine}
use Rattle.gpl_step_defs.specs.declared.reason.Reason.{Reason}
use Rattle.gpl_step_defs.specs.State.{GplState, start}
use Rattle.gpl_step_defs.specs.Run.{GplRun, run}
use Rattle.interp_defs.specs.Match.{shown_by}
use Rattle.interp_defs.specs.Programs.{EndsAs, RunsSteps, bound_of_boot}
use Rattle.interp_defs.proofs.Machines.{runs_program}
use Rattle.sim_steps.specs.Running.{RunsTurns}
use Rattle.sim_steps.specs.Starting.{StartsProgram}
use Rattle.gpl_run.specs.Sessions.{SessionState, IsNew, gpl_state_of, address_in, image_of, entry_of}
use Rattle.trace_dump.proofs.Shown.{seen_by, same_pc, same_state}
use Rattle.watch_defs.specs.declared.item.Item.{Item}
use Rattle.watch_defs.specs.declared.found.Found.{Found}
use Rattle.watch_defs.specs.declared.found.Found.TheVariants as result
use Rattle.watch_defs.specs.Hits as hits
use Rattle.gpl_watch.specs.Watches.{Watches}
use Rattle.report_defs.specs.declared.status.Status.TheVariants.{Done}
use Rattle.report_defs.specs.Program.{state_lines, stop_lines, program_status}
use Rattle.report_defs.specs.Report.{Whole}
use Rattle.report_defs.specs.Watching.{hit_line, no_hit_line, steps_to, watch_report}
use Rattle.reports.specs.Watched.{watched_status, watched_lines}
use Rattle.watch_command.specs.Ran.{WatchesProgram}

-- The report that is made is that of the run up to what was found.
module _ (limit : ℕ) (s : GplState) (t : SessionState) (memory : IsMemory t.machine.cpu.memory) where
  abbrev ran : Found → GplRun
  ran found = run (steps_to found limit) s

  same_report : (found : Found) → t.ended ≡ (ran found).stop → EndsAs (ran found).stop (ran found).last t.machine
      → Whole (watched_status found t) (watched_lines found t) ≡ watch_report found limit s t.machine
  same_report (result.Hit step from item change) ended ends =
      let x = t.machine in
      let r = run step s in
      let line = hit_line step from item change in
      ap (λ (e : Option Reason). Whole Done (line ∷ state_lines (seen_by e x) x)) ended
      ∙ ap (λ (lines : List (List ℕ)). Whole Done (line ∷ lines)) (same_state r.last x memory r.stop ends)
  same_report result.None ended ends =
      let x = t.machine in
      let r = run limit s in
      ap
      (λ (e : Option Reason).
      Whole (program_status e) (no_hit_line ∷ (stop_lines e (seen_by e x).pc ++ state_lines (seen_by e x) x)))
      ended
      ∙ ap₂
      (λ (p : ℕ) (lines : List (List ℕ)). Whole (program_status r.stop) (no_hit_line ∷ (stop_lines r.stop p ++ lines)))
      (same_pc r.last x memory r.stop ends) (same_state r.last x memory r.stop ends)

-- A program that is watched is run up to what is found.
runs_of : (found : Found) (limit : ℕ) (x y : SessionState) (before after : ℕ) → Watches limit x y before after found
    → (done : ℕ) × RunsTurns (gpl_state_of x) (steps_to found limit) x.machine y.machine before after done y.ended
runs_of (result.Hit step from item change) limit x y before after w = (step, w.0.runs)
runs_of result.None limit x y before after w = ((run limit (gpl_state_of x)).done, w.runs)

-- The interpreter has booted on a new machine, and the program was watched.
module _ (new : MachineState) (machine : IsMachine new) (is_new : IsNew new) (first : SessionState) (begun booted : ℕ)
    (begins : StartsProgram (start (image_of new) (entry_of new)) bound_of_boot new first.machine begun booted)
    (running : first.ended ≡ None) where
  abbrev s : GplState
  s = start (image_of new) (entry_of new)

  seen_is : gpl_state_of first ≡ s
  seen_is =
      ap (λ (o : Option Reason). record (shown_by first.machine.cpu.memory) { pc = address_in o first.machine }) running
      ∙ begins.matches.shows

  pub watches : (limit : ℕ) (items watched_items : List Item) (found : Found) (t : SessionState) (before after : ℕ)
      → watched_items ≡ items → found ≡ hits.found watched_items limit (gpl_state_of first)
      → Watches limit first t before after found
      → IsMemory t.machine.cpu.memory
      → WatchesProgram (image_of new) (entry_of new) limit items (record { found = found; session = t })
  watches limit items watched_items found t before after same is w memory =
      let ran = (runs_of found limit first t before after w).1 in
      let n = steps_to found limit in
      let runs : RunsSteps s n ran.count first.machine t.machine =
      subst (λ (state : GplState). RunsSteps state n ran.count first.machine t.machine) seen_is ran.runs in
      let ended = ran.stop_is ∙ ap (λ (state : GplState). (run n state).stop) seen_is in
      record {
        found = is ∙ ap₂ (λ (i : List Item) (state : GplState). hits.found i limit state) same seen_is;
        runs = runs_program machine is_new begins.boots begins.within runs;
        ended = ended;
        memory = memory;
        report = same_report limit s t memory found ended runs.ends;
      }
