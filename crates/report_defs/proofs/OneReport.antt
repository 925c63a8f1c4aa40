-- There is one report on each command and input, and with files.
use Rattle.std.proofs.Common.{◌≡◌, ℕ, List, length, refl, sym, ap, ◌∙◌, subst, arith, Option, Some, None, Bool, true, false}
use Rattle.std.specs.Prelude.{MatchBool, nat_lt, Result, Ok, Err}
use Rattle.std.proofs.lemmas.Bool.Decides.{nat_tests}
use Rattle.console_defs.specs.Vdp.{VdpState}
use Rattle.std.specs.FinMap.{entries}
use Rattle.console_defs.specs.Grom.{GromState, new_grom}
use Rattle.console_defs.specs.Memory.{Memory, IsNewMemory}
use Rattle.link_defs.specs.LinkedMemory.{LinkedMemory}
use Rattle.load_defs.specs.Loaded.{IsLoaded, with_words, with_first_word}
use Rattle.report_defs.specs.ObjectInput.{linked_input}
use Rattle.console_defs.specs.Machine.{MachineState, new_machine}
use Rattle.console_defs.specs.Runs.{IsRun, end_at, after_steps}
use Rattle.console_defs.specs.declared.run_end.RunEnd.{RunEnd}
use Rattle.report_defs.specs.declared.command.Command.{Command}
use Rattle.report_defs.specs.declared.command.Command.TheVariants.{Exec, Interp, Run, Trace, Demo}
use Rattle.report_defs.specs.Exec.{IsStart, Executes, exec_lines, end_status}
use Rattle.report_defs.specs.declared.fault.Fault.TheVariants.{TooLarge}
use Rattle.report_defs.specs.declared.status.Status.TheVariants.{Done}
use Rattle.report_defs.specs.Report.{Report, Whole, Faulty, ReportsExecution, ExecReport, AcceptedReport, ReportOn, largest_input}
use Rattle.report_defs.specs.Report.{ReportsInterpreter, ProgramRun, ReportsProgram, EnteredReport, ProgramReport, run_lines, trace_lines, demo_lines}
use Rattle.report_defs.specs.MemoryListing.{linked_lines}
use Rattle.report_defs.specs.Program.{program_status}
use Rattle.report_defs.specs.DemoText.{demo_text}
use Rattle.report_defs.specs.Commands.{most_steps}
use Rattle.source_defs.specs.Refusals.{Refusal}
use Rattle.gpl_defs.specs.Image.{Image}
use Rattle.gpl_defs.proofs.ImageLaws.{bytes_alone}
use Rattle.gpl_source_defs.specs.declared.causes.GplCause.{GplCause}
use Rattle.gpl_source_defs.specs.Programs.{Program, program_of_source}
use Rattle.interp_build_defs.proofs.OneMemory.{one_memory_links}
use Rattle.gpl_step_defs.specs.State.{start}
use Rattle.gpl_step_defs.specs.Run.{run}
use Rattle.interp_defs.specs.Programs.{RunsProgram}
use Rattle.interp_defs.proofs.OneBoot.{one_zeros, one_vdp, same_memory}
use Rattle.interp_defs.proofs.OneMachine.{one_machine_is_left}
use Rattle.watch_defs.specs.declared.item.Item.{Item}
use Rattle.watch_defs.specs.declared.found.Found.{Found}
use Rattle.watch_defs.specs.Hits as hits
use Rattle.report_defs.specs.Watching.{ReportsWatch, steps_to, watch_report}
use Rattle.shelf_defs.specs.Files.{Files}
use Rattle.report_defs.specs.ProgramCommands.{ProgramCommand, AsmFiles, LinkFiles, Watch, OverFiles, Plain}
use Rattle.report_defs.specs.FileReports.{AsmReport, ReportWith}

-- one memory is a new one
one_new : (a b : Memory) (vdp_a vdp_b : VdpState) (grom_a grom_b : GromState) → vdp_a ≡ vdp_b → grom_a ≡ grom_b → IsNewMemory a vdp_a grom_a → IsNewMemory b vdp_b grom_b → a ≡ b
one_new a b vdp_a vdp_b grom_a grom_b vdp grom p q =
    same_memory a b
    (one_zeros 256 a.scratchpad b.scratchpad p.scratchpad q.scratchpad)
    (one_zeros 8192 a.low_expansion b.low_expansion p.low_expansion q.low_expansion)
    (one_zeros 24576 a.high_expansion b.high_expansion p.high_expansion q.high_expansion)
    (one_zeros 8192 a.rom b.rom p.rom q.rom)
    (p.vdp_given ∙ vdp ∙ sym q.vdp_given)
    (p.grom_given ∙ grom ∙ sym q.grom_given)

-- one memory is loaded
one_memory : (linked : LinkedMemory) (image_a image_b : List ℕ) (a b : Memory) → image_a ≡ image_b → IsLoaded linked image_a 0 a → IsLoaded linked image_b 0 b → a ≡ b
one_memory linked image_a image_b a b image p q =
    let empty : p.empty ≡ q.empty =
    one_new p.empty q.empty p.vdp q.vdp (new_grom image_a) (new_grom image_b) (one_vdp p.vdp q.vdp p.new_vdp q.new_vdp) (ap new_grom image) p.new_memory q.new_memory in
    p.loaded ∙ ap (λ memory. with_words (entries linked.words) (with_first_word 0 memory)) empty ∙ sym q.loaded

pub one_start : (linked : LinkedMemory) (a b : MachineState) → IsStart linked a → IsStart linked b → a ≡ b
one_start linked a b p q =
    let image : p.image ≡ q.image = one_zeros 65536 p.image q.image p.zeros q.zeros in
    p.machine.machine
    ∙ ap (λ memory. new_machine memory 0x83E0 linked.entry) (one_memory linked p.image q.image a.cpu.memory b.cpu.memory image p.machine.memory q.machine.memory)
    ∙ sym q.machine.machine

pub some_apart : (e : RunEnd) (end : Option RunEnd) → end ≡ Some e → end ≡ None → ⊥
some_apart e end is none = absurd (cc)

-- a run ends at one number, and by one end
pub one_number : (stop : Option ℕ) (limit m n : ℕ) (x y z : MachineState) (e f : RunEnd) → IsRun stop limit m x e y → IsRun stop limit n x f z → m ≡ n
one_number stop limit m n x y z e f p q = by (nat_lt m n) refl (nat_lt n m) refl
  where
    by : (below : Bool) → nat_lt m n ≡ below → (above : Bool) → nat_lt n m ≡ above → m ≡ n
    by true b above a = let none = q.first m (grind (arith, nat_tests)) in absurd (cc (p.ends, none))
    by false b true a = let none = p.first n (grind (arith, nat_tests)) in absurd (cc (q.ends, none))
    by false b false a = grind (arith, nat_tests)

pub same_run : (stop : Option ℕ) (limit m n : ℕ) (x y z : MachineState) (e f : RunEnd) → m ≡ n → IsRun stop limit m x e y → IsRun stop limit n x f z → (e ≡ f) × (y ≡ z)
same_run stop limit m n x y z e f same p q =
    let is : Some e ≡ Some f = sym p.ends ∙ ap (λ made. end_at stop limit made x) same ∙ q.ends in
    (cc is, p.left ∙ ap (λ made. after_steps made x) same ∙ sym q.left)

-- one end and one machine come of a program
one_execution : (limit : ℕ) (linked : LinkedMemory) (e f : RunEnd) (left right : MachineState) → Executes limit linked e left → Executes limit linked f right → (e ≡ f) × (left ≡ right)
one_execution limit linked e f left right p q =
    let start : p.start ≡ q.start = one_start linked p.start q.start p.is_start q.is_start in
    let run : IsRun None limit q.made p.start f right = subst (λ s. IsRun None limit q.made s f right) (sym start) q.run in
    let made : p.made ≡ q.made = one_number None limit p.made q.made p.start left right e f p.run run in
    same_run None limit p.made q.made p.start left right e f made p.run run

one_execution_report : (limit : ℕ) (linked : LinkedMemory) (first second : Report) → ReportsExecution limit linked first → ReportsExecution limit linked second → first ≡ second
one_execution_report limit linked first second p q =
    let same = one_execution limit linked p.ending q.ending p.left q.left p.executes q.executes in
    p.is ∙ ap (λ ending. Whole (end_status ending) (exec_lines ending p.left)) same.0 ∙ ap (λ left. Whole (end_status q.ending) (exec_lines q.ending left)) same.1 ∙ sym q.is

one_interpreter_report : (first second : Report) → ReportsInterpreter first → ReportsInterpreter second → first ≡ second
one_interpreter_report first second p q =
    let same = one_memory_links _ p.memory q.memory p.links q.links in
    p.is ∙ ap (λ memory. Whole Done (linked_lines memory)) same ∙ sym q.is

-- by a test, one fault or one of other reports
pub one_by : (test : Bool) (fault first second : Report) (Other : Report → Type 0) → ((first second : Report) → Other first → Other second → first ≡ second) → MatchBool test (first ≡ fault) (Other first) → MatchBool test (second ≡ fault) (Other second) → first ≡ second
one_by true fault first second Other one p q = p ∙ sym q
one_by false fault first second Other one p q = one first second p q

pub one_exec : (limit : ℕ) (linked : Result LinkedMemory (List ℕ)) (first second : Report) → ExecReport limit linked first → ExecReport limit linked second → first ≡ second
one_exec limit (Ok linked) first second p q = one_execution_report limit linked first second p q
one_exec limit (Err line) first second p q = p ∙ sym q

-- one report of a program
pub one_program : (lines : ProgramRun → List (List ℕ)) (limit : ℕ) (image : Image) (entry : ℕ) (first second : Report) →
    ReportsProgram lines limit image entry first → ReportsProgram lines limit image entry second → first ≡ second
one_program lines limit image entry first second p q =
    let bytes : p.bytes ≡ q.bytes = bytes_alone image p.bytes q.bytes p.of_image q.of_image in
    let runs : RunsProgram q.bytes entry limit p.left = subst (λ (b : List ℕ). RunsProgram b entry limit p.left) bytes p.runs in
    let left : p.left ≡ q.left = one_machine_is_left q.bytes entry limit p.left q.left runs q.runs in
    let by : List ℕ → MachineState → Report = λ b x. let s = start b entry in let r = run limit s in Whole (program_status r.stop) (lines (record { image = image; begun = s; made = r; left = x })) in
    p.is ∙ ap (λ (b : List ℕ). by b p.left) bytes ∙ ap (by q.bytes) left ∙ sym q.is

-- two such reports are one
abbrev pub One : (Report → Type 0) → Type 0
One Reports = (first second : Report) → Reports first → Reports second → first ≡ second

one_entered : (Reports : Image → ℕ → Report → Type 0) → ((image : Image) (entry : ℕ) → One (Reports image entry)) →
    (image : Image) (entry : Option ℕ) → One (EnteredReport Reports image entry)
one_entered Reports one image (Some entry) first second p q = one image entry first second p q
one_entered Reports one image None first second p q = p ∙ sym q

pub one_assembled : (Reports : Image → ℕ → Report → Type 0) → ((image : Image) (entry : ℕ) → One (Reports image entry)) →
    (program : Result Program (Refusal GplCause)) → One (ProgramReport Reports program)
one_assembled Reports one (Ok program) first second p q = one_entered Reports one program.image program.entry first second p q
one_assembled Reports one (Err refused) first second p q = p ∙ sym q

one_accepted : (command : Command) (input : List ℕ) (first second : Report) → AcceptedReport command input first → AcceptedReport command input second → first ≡ second
one_accepted (Exec limit) input first second p q = one_exec limit (linked_input input) first second p q
one_accepted Interp input first second p q = one_interpreter_report first second p q
one_accepted (Run limit) input first second p q =
    one_assembled (ReportsProgram run_lines limit) (one_program run_lines limit) (program_of_source input) first second p q
one_accepted (Trace limit) input first second p q =
    one_assembled (ReportsProgram trace_lines limit) (one_program trace_lines limit) (program_of_source input) first second p q
one_accepted (Demo number) input first second p q =
    one_assembled (ReportsProgram (demo_lines number) most_steps) (one_program (demo_lines number) most_steps)
    (program_of_source (demo_text number)) first second p q
one_accepted _ input first second p q = p ∙ sym q

pub one_report : (command : Command) (input : List ℕ) (first second : Report)
    → ReportOn command input first → ReportOn command input second → first ≡ second
one_report command input first second p q =
    one_by (nat_lt largest_input (length input)) (Faulty TooLarge) first second (AcceptedReport command input) (one_accepted command input) p q

-- ---- the reports with files

one_watched : (limit : ℕ) (items : List Item) (image : Image) (entry : ℕ) → One (ReportsWatch limit items image entry)
one_watched limit items image entry first second p q =
    let bytes : p.bytes ≡ q.bytes = bytes_alone image p.bytes q.bytes p.of_image q.of_image in
    let found : p.found ≡ q.found =
    p.is_found ∙ ap (λ (b : List ℕ). hits.found items limit (start b entry)) bytes ∙ sym q.is_found in
    let same : RunsProgram q.bytes entry (steps_to p.found limit) p.left =
    subst (λ (b : List ℕ). RunsProgram b entry (steps_to p.found limit) p.left) bytes p.runs in
    let runs : RunsProgram q.bytes entry (steps_to q.found limit) p.left =
    subst (λ (f : Found). RunsProgram q.bytes entry (steps_to f limit) p.left) found same in
    let left : p.left ≡ q.left = one_machine_is_left q.bytes entry (steps_to q.found limit) p.left q.left runs q.runs in
    p.is
    ∙ ap (λ (b : List ℕ). watch_report p.found limit (start b entry) p.left) bytes
    ∙ ap (λ (f : Found). watch_report f limit (start q.bytes entry) p.left) found
    ∙ ap (λ (x : MachineState). watch_report q.found limit (start q.bytes entry) x) left
    ∙ sym q.is

pub one_report_with : (command : ProgramCommand) (input : List ℕ) (files : Files) (first second : Report)
    → ReportWith command input files first → ReportWith command input files second → first ≡ second
one_report_with (OverFiles AsmFiles) input files first second p q =
    one_by (nat_lt largest_input (length input)) (Faulty TooLarge) first second (AsmReport files input)
    (λ a b e f. e ∙ sym f) p q
one_report_with (OverFiles (LinkFiles names)) input files first second p q = p ∙ sym q
one_report_with (OverFiles (Watch limit items)) input files first second p q =
    one_by (nat_lt largest_input (length input)) (Faulty TooLarge) first second
    (ProgramReport (ReportsWatch limit items) (program_of_source input))
    (one_assembled (ReportsWatch limit items) (one_watched limit items) (program_of_source input)) p q
one_report_with (Plain command) input files first second p q = one_report command input first second p q
