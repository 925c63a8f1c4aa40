-- A trace is the run of its program.
use Rattle.std.proofs.Common.{◌≡◌, ◌≤◌, ℕ, List, ◌++◌, length, Option, Ok, ◌+◌, arith, refl, sym, ap, ◌∙◌, subst, inl, inr}
use Rattle.std.proofs.Common.{Bool, true, false, Result, Err}
use Rattle.std.specs.Prelude.{is_err}
use Rattle.console_defs.specs.Grom.{GromState}
use Rattle.gpl_defs.specs.Image.{Image}
use Rattle.gpl_source_defs.specs.Programs.{program_of_source}
use Rattle.console_defs.specs.Memory.{IsMemory}
use Rattle.bench_io.specs.Stream.{SourceState, SinkState}
use Rattle.bench_io.specs.Written.{Wrote}
use Rattle.bench_io.proofs.Writes.{wrote_more, missed_more}
use Rattle.gpl_counts.specs.Counts.{ShowsStep, changes_alone, lines_by}
use Rattle.trace_dump.specs.Plays.{Plays}
use Rattle.trace_dump.proofs.ShownPrograms.{breaks_lines, front_of_all, lines_alone}
use Rattle.reports.specs.declared.report.Report.TheVariants as made
use Rattle.gpl_step_defs.specs.State.{GplState, start}
use Rattle.gpl_step_defs.specs.Run.{run}
use Rattle.interp_defs.specs.Programs.{RunsSteps}
use Rattle.interp_defs.proofs.Machines.{runs_program}
use Rattle.gpl_run.specs.Sessions.{SessionState, gpl_state_of, image_of, entry_of}
use Rattle.report_defs.specs.declared.status.Status.{Status}
use Rattle.report_defs.specs.declared.status.Status.TheVariants as status
use Rattle.report_defs.specs.declared.command.Command.{Command}
use Rattle.report_defs.specs.declared.command.Command.TheVariants as asked
use Rattle.report_defs.specs.Commands.{reads}
use Rattle.report_defs.specs.Report as spec
use Rattle.report_defs.specs.Program.{program_lines, program_status}
use Rattle.report_defs.specs.Trace.{ShowsChanges, step_lines, changes_text}
use Rattle.bench_commands.specs.declared.trace.Trace.{Trace}
use Rattle.bench_commands.specs.declared.commands.program.LoadedProgram.{LoadedProgram}
use Rattle.bench_commands.specs.declared.prepared.Prepared.{Prepared}
use Rattle.bench_commands.specs.declared.prepared.Prepared.TheVariants as prepared
use Rattle.reports.specs.Made.{model_of_report}
use Rattle.reports.specs.Outputs.{Outputs, EndsWith}
use Rattle.reports.specs.Run.{EndsBy}
use Rattle.bench_commands.specs.InputRun.{TakesWhole, InputCommands, input_program}
use Rattle.bench_commands.specs.Bench.{bench_input, bench_program}
use Rattle.bench_commands.specs.Loaded.{LoadsEntered}
use Rattle.bench_commands.specs.Traced.{Started, TracesSource, TracesWhole, EndsTrace, Prepares, Finishes}
use Rattle.bench_commands.proofs.NoUsage.{no_usage}
use Rattle.bench_commands.proofs.Ends.{HasNoUsage, run_of, by_front, by_answer, reading, within}
use Rattle.bench_commands.proofs.LoadedSources.{of_program}
use Rattle.bench_commands.proofs.Programs.{ends_alike}

-- the state before the first step is the start of the program
pub began : (image : Image) (entry : Option ℕ) (loaded : LoadedProgram) (l : LoadsEntered image entry loaded) (t : SessionState) (s : Started loaded.machine t) → gpl_state_of t ≡ start l.bytes l.address
began image entry loaded l t s =
    let x = loaded.machine in
    let shown : gpl_state_of t ≡ start (image_of x) (entry_of x) = ap (λ (e : Option _). gpl_state_of (record { machine = t.machine; ended = e })) s.running ∙ s.matches.shows in
    shown
    ∙ ap (λ (i : List ℕ). start i (entry_of x)) (ap (λ (g : GromState). g.image) l.boots.grom)
    ∙ ap (start l.bytes) l.boots.scratchpad.word

module _ (shows : ShowsChanges) (input : List ℕ) (trace : Trace) (t : TracesSource input trace) where
  abbrev l : LoadsEntered t.loads.program.image t.loads.program.entry t.new
  l = t.loads.entered

  first_is : gpl_state_of trace.session ≡ start l.bytes l.address
  first_is = began t.loads.program.image t.loads.program.entry t.new l trace.session t.started

  abbrev whole_from : GplState → SessionState → spec.Report
  whole_from s left = spec.Whole (program_status left.ended) (step_lines shows s (run trace.limit s).done ++ program_lines left.ended (gpl_state_of left) left.machine)

  abbrev front_from : GplState → spec.Report
  front_from s = spec.Whole status.Done (step_lines shows s (run trace.limit s).done)

  whole_reported : (o : Outputs) (st : Status) (w : TracesWhole (changes_alone shows) o trace st)
      → spec.ProgramReport (spec.ReportsProgram (spec.shown_lines shows) trace.limit) (program_of_source input) (whole_from (gpl_state_of trace.session) w.left)
  whole_reported o st w =
      let s : GplState = start l.bytes l.address in
      let runs = subst (λ (q : GplState). RunsSteps q trace.limit w.count trace.session.machine w.left.machine) first_is w.runs in
      let ended : w.left.ended ≡ (run trace.limit s).stop = w.ended ∙ ap (λ (q : GplState). (run trace.limit q).stop) first_is in
      of_program (spec.ReportsProgram (spec.shown_lines shows) trace.limit) (program_of_source input) (whole_from (gpl_state_of trace.session) w.left) t.new t.loads (record {
        bytes = l.bytes;
        of_image = l.of_image;
        left = w.left.machine;
        runs = runs_program t.started.machine l.boots t.started.boots t.started.within runs;
        is = ap (λ (q : GplState). whole_from q w.left) first_is ∙ ends_alike (step_lines shows s (run trace.limit s).done) (run trace.limit s) w.left ended w.memory runs.ends;
      })

  front_reported : spec.ProgramReport (spec.ShowsSteps shows trace.limit) (program_of_source input) (front_from (gpl_state_of trace.session))
  front_reported =
      of_program (spec.ShowsSteps shows trace.limit) (program_of_source input) (front_from (gpl_state_of trace.session)) t.new t.loads (record {
        bytes = l.bytes;
        of_image = l.of_image;
        is = ap front_from first_is;
      })

  -- a run ends as its trace, by what is reported of the program and what is a front of that
  module _ {C : Type 0} (p : InputCommands C) (no_usage : HasNoUsage p) (command : C) (before after : SourceState) (o : Outputs)
      (takes : TakesWhole (p.reads command) before after input)
      (whole : (report : spec.Report) → spec.ProgramReport (spec.ReportsProgram (spec.shown_lines shows) trace.limit) (program_of_source input) report
      → p.Accepted command input report)
      (front : (report : spec.Report) → (length input ≤ spec.largest_input) × spec.ProgramReport (spec.ShowsSteps shows trace.limit) (program_of_source input) report
      → p.PrefixOn command input report) where
    pub by_trace : (st : Status) → EndsTrace (changes_alone shows) o trace st
        → EndsBy (input_program p) (run_of p no_usage command before after o) st
    by_trace st (inl w) =
        let accepted = whole (whole_from (gpl_state_of trace.session) w.left) (whole_reported o st w) in
        let s = gpl_state_of trace.session in
        let tail = program_lines w.left.ended (gpl_state_of w.left) w.left.machine in
        let ends = subst (λ (l : List (List ℕ)). EndsWith o (spec.Whole (program_status w.left.ended) (l ++ tail)) st)
        (lines_alone shows s w.runs.machine (run trace.limit s).done) w.ends in
        by_answer p no_usage command before after o input takes (Ok (whole_from (gpl_state_of trace.session) w.left)) st accepted ends
    by_trace st (inr b) =
        let s = gpl_state_of trace.session in
        let shown = front_from (gpl_state_of trace.session) in
        let le = within p no_usage command before after o input takes in
        let on : p.PrefixOn command input shown = front shown (le, front_reported) in
        subst (EndsBy (input_program p) (run_of p no_usage command before after o)) (sym b.is)
        (by_front p no_usage command before after o shown (input, reading p no_usage command before after o input takes, on) (front_of_all shows s b.runs.machine b.made (run trace.limit s).done o.out o.out' b.within b.missed, b.silent))

-- a run of `bench` ends as what its command made
module _ (command : Command) (before after : SourceState) (o : Outputs) (bytes : List ℕ) (takes : TakesWhole (reads command) before after bytes) where
  pub by_prepared : (p : Prepared) (st : Status) → Prepares command bytes (Ok p) → Finishes o p st
      → EndsBy bench_program (run_of bench_input no_usage command before after o) st
  by_prepared (prepared.Report report) st accepted ends =
      by_answer bench_input no_usage command before after o bytes takes (Ok (model_of_report report)) st accepted ends
  by_prepared (prepared.Trace trace) st (is, t) ends =
      by_trace changes_text bytes trace t bench_input no_usage command before after o takes
      (λ report on. subst (λ (k : Command). spec.AcceptedReport k bytes report) (sym is) on)
      (λ report on. subst (λ (k : Command). spec.PrefixOn k bytes report) (sym is) on) st ends

-- ---- a trace is written

-- what ends after lines that were written ends with these in front of it
ends_after : (o : Outputs) (middle : SinkState) (first lines : List (List ℕ)) (own st : Status) → Wrote o.out middle first → EndsWith (record o { out = middle }) (spec.Whole own lines) st →
    EndsWith o (spec.Whole own (first ++ lines)) st
ends_after o middle first lines own status.ReadFault w e = absurd e
ends_after o middle first lines own status.WriteFault w e = (missed_more o.out middle o.out' first lines w e.0, e.1)
ends_after o middle first lines own status.Memory w e = absurd e
ends_after o middle first lines own _ w e = (e.0, (wrote_more o.out middle o.out' first lines w e.1.0, e.1.1))

not_both : (b : Bool) → b ≡ true → b ≡ false → ⊥
not_both b e f = cc

-- the steps were shown, and then the end of the program
pub traces_whole : {E : Type 0} (shows : ShowsStep) (o : Outputs) (trace : Trace) (left : SessionState) (middle : SinkState) (before after : ℕ) (r : Result ℕ E) (st : Status) →
    Plays shows trace.limit trace.session left before after o.out middle r → is_err r ≡ false → IsMemory left.machine.cpu.memory →
    EndsWith (record o { out = middle }) (model_of_report (made.Program left)) st → EndsTrace shows o trace st
traces_whole shows o trace left middle before after (Ok done) st p none memory ends =
    let s = gpl_state_of trace.session in
    let wrote = subst (λ (n : ℕ). Wrote o.out middle (lines_by shows s p.runs.runs.machine n)) p.runs.done_is p.wrote in
    inl (record {
      left = left;
      memory = memory;
      count = p.runs.count;
      runs = p.runs.runs;
      ended = p.runs.stop_is;
      ends = ends_after o middle (lines_by shows s p.runs.runs.machine (run trace.limit s).done) (program_lines left.ended (gpl_state_of left) left.machine) (program_status left.ended) st wrote ends;
    })
traces_whole shows o trace left middle before after (Err error) st p none memory ends = absurd (not_both true refl none)

-- the line of a step could not be written
pub breaks_off : {E : Type 0} (shows : ShowsStep) (o : Outputs) (trace : Trace) (left : SessionState) (before after : ℕ) (r : Result ℕ E) →
    Plays shows trace.limit trace.session left before after o.out o.out' r → is_err r ≡ true → o.err' ≡ o.err → EndsTrace shows o trace status.WriteFault
breaks_off shows o trace left before after (Ok done) p failed silent = absurd (cc)
breaks_off shows o trace left before after (Err error) p failed silent =
    let less = p.within in
    inr (record {
      is = refl;
      made = p.shown + 1;
      within = omega arith;
      whole = sym p.runs.done_is;
      left = left.machine;
      count = p.runs.count;
      runs = p.runs.runs;
      missed = breaks_lines shows trace.limit trace.session left before after o.out o.out' p;
      silent = silent;
    })
