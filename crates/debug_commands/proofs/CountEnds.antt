-- A run of `gcounts` ends as its trace.
use Rattle.std.proofs.Common.{◌≡◌, ◌<◌, ◌≤◌, ℕ, ◌+◌, List, ◌++◌, Ok, refl, sym, ap, ◌∙◌, subst, inl, inr, arith}
use Rattle.console_defs.specs.Machine.{MachineState, IsMachine}
use Rattle.bench_io.specs.Stream.{SourceState}
use Rattle.bench_io.specs.ReadAll.{ReadWhole}
use Rattle.gpl_source_defs.specs.Programs.{program_of_source}
use Rattle.gpl_step_defs.specs.State.{GplState, start}
use Rattle.gpl_step_defs.specs.Run.{run, turns}
use Rattle.interp_defs.specs.Boot.{IsBoot}
use Rattle.interp_defs.specs.Turns.{Boots}
use Rattle.interp_defs.specs.Programs.{bound_of_boot, TurnsWithin, RunsProgram, RunsSteps}
use Rattle.gpl_run.specs.Sessions.{SessionState, gpl_state_of}
use Rattle.report_defs.specs.declared.status.Status.{Status}
use Rattle.report_defs.specs.declared.status.Status.TheVariants as status
use Rattle.report_defs.specs.Report as spec
use Rattle.report_defs.specs.Program.{program_lines, program_status}
use Rattle.gpl_counts.specs.Counts.{counts_alone, lines_by, ReportsCounts, ShowsCounts}
use Rattle.bench_commands.specs.declared.trace.Trace.{Trace}
use Rattle.bench_commands.specs.Loaded.{LoadsEntered, RunsNone}
use Rattle.bench_commands.specs.Traced.{TracesSource, TracesWhole, BreaksOff}
use Rattle.bench_commands.proofs.Traces.{began}
use Rattle.bench_commands.proofs.Programs.{ends_alike}
use Rattle.bench_commands.proofs.LoadedSources.{of_program, program_none}
use Rattle.bench_commands.proofs.Ends.{run_of, by_answer, by_front, reading, within}
use Rattle.reports.specs.Outputs.{Outputs}
use Rattle.reports.specs.Run.{EndsBy}
use Rattle.debug_report_defs.specs.declared.command.DebugCommand.TheVariants.{Gcounts}
use Rattle.debug_report_defs.specs.Reports.{InputReport}
use Rattle.debug_commands.specs.Debug.{debug_input}
use Rattle.debug_commands.specs.Gsteps.{EndsCounts}
use Rattle.debug_commands.proofs.Ends.{input_only, no_usage, by_answered}

-- A machine boots, and a run is made from there, which has these machines.
module _ {image : List ℕ} {entry limit count made : ℕ} {boot first left : MachineState} (is_machine : IsMachine boot)
    (is_boot : IsBoot image entry boot) (boots : Boots count boot first) (within : count ≤ bound_of_boot)
    (r : RunsSteps (start image entry) limit made first left) where
  begins : Boots (count + r.instructions 0) boot (r.machine 0)
  begins =
      subst (λ n. Boots n boot (r.machine 0)) (omega (arith, r.none))
      (subst (λ m. Boots count boot m) (sym r.first) boots)

  few : count + r.instructions 0 ≤ bound_of_boot
  few = omega (arith, r.none, within)

  turns_on : (i : ℕ) → i < turns limit (start image entry)
      → TurnsWithin (run i (start image entry)).last (count + r.instructions i) (count + r.instructions (i + 1))
      (r.machine i) (r.machine (i + 1))
  turns_on i below =
      let t = r.machines.next i below in
      record { turn = t.turn; is_turn = t.is_turn; within = t.within; adds = omega (arith, t.adds) }

  abbrev from_boot : RunsProgram image entry limit left
  from_boot =
      record {
        boot = boot;
        is_machine = is_machine;
        is_boot = is_boot;
        machine = r.machine;
        instructions = λ i. count + r.instructions i;
        first = begins;
        within = few;
        machines = record { matches = r.machines.matches; next = turns_on };
        last = r.last;
        ends = r.ends;
      }

abbrev count_lines : GplState → (ℕ → MachineState) → ℕ → List (List ℕ)
count_lines s machine made = lines_by counts_alone s machine made

module _ (input : List ℕ) (trace : Trace) (t : TracesSource input trace) where
  abbrev l : LoadsEntered t.loads.program.image t.loads.program.entry t.new
  l = t.loads.entered

  abbrev first : GplState
  first = gpl_state_of trace.session

  first_is : first ≡ start l.bytes l.address
  first_is = began t.loads.program.image t.loads.program.entry t.new l trace.session t.started

  abbrev whole_from : GplState → SessionState → (ℕ → MachineState) → spec.Report
  whole_from s left machine =
      spec.Whole (program_status left.ended) (count_lines s machine (run trace.limit s).done ++ program_lines left.ended (gpl_state_of left) left.machine)

  abbrev front_from : GplState → ℕ → (ℕ → MachineState) → spec.Report
  front_from s made machine = spec.Whole status.Done (count_lines s machine made)

  whole_reported : (o : Outputs) (st : Status) (w : TracesWhole counts_alone o trace st)
      → spec.ProgramReport (ReportsCounts trace.limit) (program_of_source input) (whole_from first w.left w.runs.machine)
  whole_reported o st w =
      let s : GplState = start l.bytes l.address in
      let report = whole_from first w.left w.runs.machine in
      let moved =
      subst (λ (q : GplState). (r : RunsSteps q trace.limit w.count trace.session.machine w.left.machine) × (report ≡ whole_from q w.left r.machine))
      first_is (w.runs, refl) in
      let ended : w.left.ended ≡ (run trace.limit s).stop = w.ended ∙ ap (λ (q : GplState). (run trace.limit q).stop) first_is in
      of_program (ReportsCounts trace.limit) (program_of_source input) report t.new t.loads (record {
        bytes = l.bytes;
        of_image = l.of_image;
        left = w.left.machine;
        runs = from_boot t.started.machine l.boots t.started.boots t.started.within moved.0;
        is = moved.1 ∙ ends_alike (count_lines s moved.0.machine (run trace.limit s).done) (run trace.limit s) w.left ended w.memory moved.0.ends;
      })

  front_reported : (o : Outputs) (st : Status) (b : BreaksOff counts_alone o trace st)
      → spec.ProgramReport (ShowsCounts trace.limit) (program_of_source input) (front_from first b.made b.runs.machine)
  front_reported o st b =
      let report = front_from first b.made b.runs.machine in
      let moved = subst (λ (q : GplState). (r : RunsSteps q b.made b.count trace.session.machine b.left) × (report ≡ front_from q b.made r.machine))
      first_is (b.runs, refl) in
      of_program (ShowsCounts trace.limit) (program_of_source input) report t.new t.loads (record {
        bytes = l.bytes;
        of_image = l.of_image;
        made = b.made;
        within = subst (λ (q : GplState). b.made ≤ (run trace.limit q).done) first_is b.within;
        left = b.left;
        runs = from_boot t.started.machine l.boots t.started.boots t.started.within moved.0;
        is = moved.1;
      })

-- a run of `gcounts` ends as its steps
module _ (limit : ℕ) (before after : SourceState) (o : Outputs) (bytes : List ℕ)
    (takes : ReadWhole spec.largest_input before after bytes) where
  pub by_counts : (end : Status) → EndsCounts limit bytes o end
      → EndsBy input_only (run_of debug_input no_usage (Gcounts limit) before after o) end
  by_counts end (inl (trace, is, t, inl w)) =
      let s = gpl_state_of trace.session in
      let report = whole_from bytes trace t s w.left w.runs.machine in
      let accepted = subst (λ (n : ℕ). InputReport (Gcounts n) bytes report) is (whole_reported bytes trace t o end w) in
      by_answer debug_input no_usage (Gcounts limit) before after o bytes takes (Ok report) end accepted w.ends
  by_counts end (inl (trace, is, t, inr b)) =
      let s = gpl_state_of trace.session in
      let shown = front_from bytes trace t s b.made b.runs.machine in
      let le = within debug_input no_usage (Gcounts limit) before after o bytes takes in
      let reads = reading debug_input no_usage (Gcounts limit) before after o bytes takes in
      let on = subst (λ (n : ℕ). spec.ProgramReport (ShowsCounts n) (program_of_source bytes) shown) is (front_reported bytes trace t o end b) in
      subst (EndsBy input_only (run_of debug_input no_usage (Gcounts limit) before after o)) (sym b.is)
      (by_front debug_input no_usage (Gcounts limit) before after o shown (bytes, reads, (le, on)) (b.missed, b.silent))
  by_counts end (inr ends) =
      by_answered (Gcounts limit) before after o bytes takes (spec.ProgramReport RunsNone (program_of_source bytes))
      (program_none (ReportsCounts limit) (program_of_source bytes)) end ends
