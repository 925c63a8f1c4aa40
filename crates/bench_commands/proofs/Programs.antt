-- Reports of GPL programs.
use Rattle.std.proofs.Common.{◌≡◌, ℕ, List, [], ◌++◌, length, Option, Some, None, ap, ap₂, ◌∙◌, subst}
use Rattle.console_defs.specs.Grom.{GromState}
use Rattle.console_defs.specs.Memory.{IsMemory}
use Rattle.console_defs.specs.Machine.{MachineState}
use Rattle.gpl_defs.specs.Image.{Image, written_bytes}
use Rattle.gpl_step_defs.specs.declared.reason.Reason.{Reason}
use Rattle.gpl_step_defs.specs.State.{GplState, start}
use Rattle.gpl_step_defs.specs.Run.{GplRun, run}
use Rattle.interp_defs.specs.Match.{shown_by}
use Rattle.interp_defs.specs.Programs.{EndsAs}
use Rattle.gpl_run.specs.Sessions.{SessionState, gpl_state_of, image_of, entry_of}
use Rattle.report_defs.specs.Program.{stop_lines, program_lines, program_status}
use Rattle.trace_dump.proofs.Shown.{seen_by, same_pc, same_state}
use Rattle.report_defs.specs.declared.summary.Summary.{Summary}
use Rattle.report_defs.specs.Summary.{summary_of, summary_lines}
use Rattle.report_defs.specs.Report.{Report, Whole, ReportsProgram, run_lines, demo_lines}
use Rattle.base_defs.specs.Lists.{sum_bytes}
use Rattle.reports.specs.declared.report.Report.TheVariants as reported
use Rattle.bench_commands.specs.declared.commands.program.LoadedProgram.{LoadedProgram}
use Rattle.bench_commands.specs.Loaded.{LoadsEntered}
use Rattle.reports.specs.Made.{model_of_report}
use Rattle.bench_commands.specs.Ran.{RanProgram}

-- What is seen of a program at its end is its last state.
ended_lines : (stop : Option Reason) (last : GplState) (x : MachineState) → IsMemory x.cpu.memory → EndsAs stop last x →
    program_lines stop (seen_by stop x) x ≡ program_lines stop last x
ended_lines stop last x memory ends =
    ap₂ (λ (p : ℕ) (lines : List (List ℕ)). stop_lines stop p ++ lines) (same_pc last x memory stop ends) (same_state last x memory stop ends)

-- The end of a session is that of the run of its program, after what was shown of its steps.
pub ends_alike : (shown : List (List ℕ)) (r : GplRun) (t : SessionState) → t.ended ≡ r.stop → IsMemory t.machine.cpu.memory → EndsAs r.stop r.last t.machine →
    Whole (program_status t.ended) (shown ++ program_lines t.ended (gpl_state_of t) t.machine) ≡ Whole (program_status r.stop) (shown ++ program_lines r.stop r.last t.machine)
ends_alike shown r t ended memory ends =
    let x = t.machine in
    ap (λ (e : Option Reason). Whole (program_status e) (shown ++ program_lines e (gpl_state_of (record { machine = x; ended = e })) x)) ended
    ∙ ap (λ (lines : List (List ℕ)). Whole (program_status r.stop) (shown ++ lines)) (ended_lines r.stop r.last x memory ends)

-- The cells and the video memory that are seen at the end are those of the last state.
ended_bytes : (stop : Option Reason) (last : GplState) (x : MachineState) → EndsAs stop last x →
    ((shown_by x.cpu.memory).cells ≡ last.cells) × (x.cpu.memory.vdp.memory ≡ last.vdp)
ended_bytes None last x matches = (ap (λ (s : GplState). s.cells) matches.shows, ap (λ (s : GplState). s.vdp) matches.shows)
ended_bytes (Some reason) last x halted = (halted.cells, halted.vdp)

-- the state of a session after a number of steps
abbrev pub ran_of : ℕ → SessionState → GplRun
ran_of made t = record { done = made; last = shown_by t.machine.cpu.memory; stop = t.ended }

-- The summary of a session is that of the run of its program.
summaries_alike : (number size image made : ℕ) (r : GplRun) (t : SessionState) → size ≡ image → made ≡ r.done → t.ended ≡ r.stop → EndsAs r.stop r.last t.machine →
    Whole (program_status t.ended) (summary_lines (summary_of number size (ran_of made t) t.machine)) ≡ Whole (program_status r.stop) (summary_lines (summary_of number image r t.machine))
summaries_alike number size image made r t same done ended ends =
    let x = t.machine in
    let of : ℕ → ℕ → List ℕ → List ℕ → Option Reason → Report =
    λ i d cells vdp e. Whole (program_status e) (summary_lines (record { number = number; image = i; steps = d; pad = sum_bytes cells; vdp = sum_bytes vdp; ended = e; count = x.count })) in
    let bytes = ended_bytes r.stop r.last x ends in
    let cells = (shown_by x.cpu.memory).cells in
    let vdp = x.cpu.memory.vdp.memory in
    ap (λ (i : ℕ). of i made cells vdp t.ended) same
    ∙ ap (λ (d : ℕ). of image d cells vdp t.ended) done
    ∙ ap (λ (c : List ℕ). of image r.done c vdp t.ended) bytes.0
    ∙ ap (λ (v : List ℕ). of image r.done r.last.cells v t.ended) bytes.1
    ∙ ap (λ (e : Option Reason). of image r.done r.last.cells r.last.vdp e) ended

module _ (limit : ℕ) (image : Image) (entry : Option ℕ) (loaded : LoadedProgram) (l : LoadsEntered image entry loaded) (t : SessionState) (made : ℕ)
    (ran : RanProgram (image_of loaded.machine) (entry_of loaded.machine) limit t made) where
  -- the session ran the program of the image from its entry
  begun : RanProgram l.bytes l.address limit t made
  begun =
      let of_bytes : image_of loaded.machine ≡ l.bytes = ap (λ (g : GromState). g.image) l.boots.grom in
      let entered = subst (λ (e : ℕ). RanProgram (image_of loaded.machine) e limit t made) l.boots.scratchpad.word ran in
      subst (λ (i : List ℕ). RanProgram i l.address limit t made) of_bytes entered

  abbrev run_is : GplRun
  run_is = run limit (start l.bytes l.address)

  pub reports_program : ReportsProgram run_lines limit image l.address (model_of_report (reported.Program t))
  reports_program = record {
    bytes = l.bytes;
    of_image = l.of_image;
    left = t.machine;
    runs = begun.runs;
    is = ends_alike [] run_is t begun.ended begun.memory begun.runs.ends;
  }

  pub reports_demo : (number : ℕ) (summary : Summary) → summary ≡ summary_of number loaded.image_size (ran_of made t) t.machine →
      ReportsProgram (demo_lines number) limit image l.address (model_of_report (reported.Demo summary))
  reports_demo number summary is = record {
    bytes = l.bytes;
    of_image = l.of_image;
    left = t.machine;
    runs = begun.runs;
    is =
        ap (λ (s : Summary). Whole (program_status s.ended) (summary_lines s)) is
        ∙ summaries_alike number loaded.image_size (length (written_bytes image)) made run_is t l.size begun.made_is begun.ended begun.runs.ends;
  }
