-- A trace, from where its memory is taken to its end.
use Rattle.std.specs.Prelude.{◌≡◌, ◌≤◌, ◌⊎◌, ℕ, List, ◌++◌, None, Result, Ok, Err}
use Rattle.console_defs.specs.Memory.{IsMemory}
use Rattle.console_defs.specs.Machine.{MachineState, IsMachine}
use Rattle.gpl_step_defs.specs.State.{start}
use Rattle.gpl_step_defs.specs.Run.{run}
use Rattle.gpl_source_defs.specs.Programs.{program_of_source}
use Rattle.bench_io.specs.Written.{Missed}
use Rattle.interp_defs.specs.Match.{Matches}
use Rattle.interp_defs.specs.Turns.{Boots}
use Rattle.interp_defs.specs.Programs.{RunsSteps, bound_of_boot}
use Rattle.gpl_run.specs.Sessions.{SessionState, gpl_state_of, image_of, entry_of}
use Rattle.report_defs.specs.declared.command.Command.{Command}
use Rattle.report_defs.specs.declared.command.Command.TheVariants as asked
use Rattle.report_defs.specs.declared.status.Status.{Status}
use Rattle.report_defs.specs.declared.status.Status.TheVariants.{WriteFault}
use Rattle.report_defs.specs.Program.{program_lines, program_status}
use Rattle.report_defs.specs.Trace.{seen_state, changes_text}
use Rattle.report_defs.specs.Report.{Whole, AcceptedReport, ProgramReport}
use Rattle.gpl_counts.specs.Counts.{ShowsStep, changes_alone, lines_by, most_shown_steps}
use Rattle.bench_commands.specs.declared.commands.program.LoadedProgram.{LoadedProgram}
use Rattle.bench_commands.specs.declared.prepared.Prepared.{Prepared}
use Rattle.bench_commands.specs.declared.prepared.Prepared.TheVariants as prepared
use Rattle.bench_commands.specs.declared.trace.Trace.{Trace}
use Rattle.reports.specs.declared.command_error.CommandError.{CommandError}
use Rattle.reports.specs.Made.{model_of_report}
use Rattle.reports.specs.Answers.{WantsMemory, Reported, error_answer}
use Rattle.bench_commands.specs.Loaded.{LoadsProgram, RunsNone}
use Rattle.reports.specs.Outputs.{Outputs, EndsWith}

-- The interpreter has booted on a machine, and is before the first step of the program.
pub record Started (new : MachineState) (session : SessionState) : Type 0 where
  pub machine : IsMachine new
  pub boot : ℕ
  pub boots : Boots boot new session.machine
  pub within : boot ≤ bound_of_boot
  pub matches : Matches (start (image_of new) (entry_of new)) session.machine
  pub running : session.ended ≡ None

-- what a trace needs: its program is running, and was seen
pub record CanTrace (trace : Trace) : Type 0 where
  pub running : trace.session.ended ≡ None
  pub kept : trace.seen ≡ seen_state (gpl_state_of trace.session)
  pub limit : trace.limit ≤ most_shown_steps

-- a trace of the program of a source
pub record TracesSource (input : List ℕ) (trace : Trace) : Type 0 where
  pub new : LoadedProgram
  pub loads : LoadsProgram (program_of_source input) new
  pub started : Started new.machine trace.session
  pub can : CanTrace trace

-- a trace of a source for up to a number of steps, or why there is none
abbrev pub StartsTrace : ℕ → List ℕ → Result Trace CommandError → Type 0
StartsTrace limit input (Ok trace) = (trace.limit ≡ limit) × TracesSource input trace
StartsTrace limit input (Err command_error) =
    Reported (ProgramReport RunsNone (program_of_source input)) WantsMemory (error_answer command_error)

-- what is made of an input that is not too large, or why nothing is
abbrev pub Prepares : Command → List ℕ → Result Prepared CommandError → Type 0
Prepares command input (Ok (prepared.Report report)) = AcceptedReport command input (model_of_report report)
Prepares command input (Ok (prepared.Trace trace)) = (command ≡ asked.Trace trace.limit) × TracesSource input trace
Prepares command input (Err command_error) =
    Reported (AcceptedReport command input) WantsMemory (error_answer command_error)

-- The program was run, and its report was written, or a front of it.
pub record TracesWhole (shows : ShowsStep) (o : Outputs) (trace : Trace) (status : Status) : Type 0 where
  pub left : SessionState
  pub memory : IsMemory left.machine.cpu.memory
  pub count : ℕ
  pub runs : RunsSteps (gpl_state_of trace.session) trace.limit count trace.session.machine left.machine
  pub ended : left.ended ≡ (run trace.limit (gpl_state_of trace.session)).stop
  pub ends : let s = gpl_state_of trace.session in
      let steps = lines_by shows s runs.machine (run trace.limit s).done in
      let lines = steps ++ program_lines left.ended (gpl_state_of left) left.machine in
      EndsWith o (Whole (program_status left.ended) lines) status

-- The line of a step could not be written: of the lines of the steps that were made a front was.
pub record BreaksOff (shows : ShowsStep) (o : Outputs) (trace : Trace) (status : Status) : Type 0 where
  pub is : status ≡ WriteFault
  pub made : ℕ
  pub within : made ≤ (run trace.limit (gpl_state_of trace.session)).done
  pub whole : (run made (gpl_state_of trace.session)).done ≡ made
  pub left : MachineState
  pub count : ℕ
  pub runs : RunsSteps (gpl_state_of trace.session) made count trace.session.machine left
  pub missed : Missed o.out o.out' (lines_by shows (gpl_state_of trace.session) runs.machine made)
  pub silent : o.err' ≡ o.err

abbrev pub EndsTrace : ShowsStep → Outputs → Trace → Status → Type 0
EndsTrace shows o trace status = TracesWhole shows o trace status ⊎ BreaksOff shows o trace status

abbrev pub CanFinish : Prepared → Type 0
CanFinish (prepared.Report report) = Unit {0}
CanFinish (prepared.Trace trace) = CanTrace trace

-- how what was made ends
abbrev pub Finishes : Outputs → Prepared → Status → Type 0
Finishes o (prepared.Report report) status = EndsWith o (model_of_report report) status
Finishes o (prepared.Trace trace) status = EndsTrace (changes_alone changes_text) o trace status
