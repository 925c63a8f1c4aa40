-- What `ti_debug` reports beside what `ti_bench` reports on the same input.
use Rattle.std.proofs.Common.{◌≡◌, ℕ, List, [], ◌++◌, length, Bool, true, false, Option, Some, None, refl, sym, ap, subst, append-nil}
use Rattle.std.specs.Prelude.{Result, Ok, Err, MatchBool, nat_lt}
use Rattle.source_defs.specs.Refusals.{Refusal, ◌>>=◌}
use Rattle.object_defs.specs.Modules.{Module}
use Rattle.asm_defs.specs.declared.causes.AsmCause.{AsmCause}
use Rattle.asm_defs.specs.Locations.{Line}
use Rattle.asm_defs.specs.FirstChecks.{names}
use Rattle.asm_defs.specs.Memory.{AssembledLine}
use Rattle.asm_defs.specs.Modules as modules
use Rattle.asm_defs.specs.Modules.{assembled_line, module_after}
use Rattle.expression_defs.specs.Layout.{assembled_lines}
use Rattle.gpl_defs.specs.Image.{Image}
use Rattle.gpl_step_defs.specs.State.{start}
use Rattle.gpl_step_defs.specs.Run.{run}
use Rattle.gpl_source_defs.specs.declared.causes.GplCause.{GplCause}
use Rattle.gpl_source_defs.specs.Programs.{Program, program_of_source}
use Rattle.link_defs.specs.LinkedMemory.{LinkedMemory}
use Rattle.shelf_defs.specs.Files.{of_files}
use Rattle.shelf_defs.specs.Files.{Contents}
use Rattle.shelf_defs.specs.Copied.{PlacedLine, CopyRefusal, At, copied_by}
use Rattle.shelf_defs.specs.Assembly.{in_place, layout_copied, module_by}
use Rattle.report_defs.specs.declared.fault.Fault.TheVariants.{TooLarge}
use Rattle.report_defs.specs.Exec.{exec_lines, end_status}
use Rattle.report_defs.specs.ObjectInput.{linked_input}
use Rattle.report_defs.specs.Program.{program_status}
use Rattle.report_defs.specs.Trace.{step_lines}
use Rattle.report_defs.specs.Report.{Report, Whole, Faulty, largest_input, gasm_report}
use Rattle.report_defs.specs.Report.{ReportsExecution, ExecReport, ProgramRun, ReportsProgram, EnteredReport, ProgramReport}
use Rattle.report_defs.specs.Report.{run_lines, shown_lines}
use Rattle.report_defs.specs.FileReports.{copy_report, AsmReport}
use Rattle.report_defs.proofs.OneReport.{one_program, one_exec}
use Rattle.change_defs.specs.Text.{all_changes_text}
use Rattle.machine_change_defs.specs.Lines as lines
use Rattle.machine_change_defs.specs.Lines.{expansion_lines}
use Rattle.machine_change_defs.specs.Reports.{ReportsSteps, StepsReport}
use Rattle.gpl_list_defs.specs.Listing as gpl_list
use Rattle.gpl_list_defs.specs.Listing.{report_by, listing_report}
use Rattle.gpl_list_defs.specs.Text.{listing_lines}
use Rattle.gpl_list_defs.specs.Laws.{ListsOf}
use Rattle.gpl_list_defs.proofs.RowLaws.{listings_give_programs}
use Rattle.asm_list_defs.specs.Listed.{listing, listing_by, listing_after}
use Rattle.asm_list_defs.specs.Rows.{listing_rows}
use Rattle.debug_report_defs.specs.Listings.{rows_report, list_report}
use Rattle.debug_report_defs.specs.SiblingLaws.{RefuseAlike, Holds, SiblingsReportAlike}

-- what is refused, if anything is
abbrev refusal_of : {A : Type 0} → Result A CopyRefusal → Option CopyRefusal
refusal_of (Ok value) = None
refusal_of (Err refusal) = Some refusal

-- what a listing refuses is what is refused of the module
refused_after : (all : List PlacedLine) (lines : List Line) (found : Result (List AssembledLine) (Refusal AsmCause))
    → (listing_after all lines found).refusal ≡ refusal_of (in_place all (found >>= λ found. Ok (modules.module_by lines found)))
refused_after all lines (Ok found) = refl
refused_after all lines (Err refusal) = refl

refused_by : (all : List PlacedLine) (found : Result (List Line) CopyRefusal)
    → (listing_by all found).refusal ≡ refusal_of (found >>= λ lines. in_place all (module_after lines))
refused_by all (Ok lines) = refused_after all lines (assembled_lines (assembled_line (names lines)) lines)
refused_by all (Err refusal) = refl

refused_alike : (contents : Contents) (source : List ℕ) → (listing contents source).refusal ≡ refusal_of (module_by contents source)
refused_alike contents source = let found = copied_by contents source in refused_by found.lines (layout_copied found)

rows_alike : (rows : List (List ℕ)) (answer : Result Module CopyRefusal) → RefuseAlike (rows_report rows (refusal_of answer)) (copy_report answer)
rows_alike rows (Err (At place cause)) = record { status = refl; line = refl }
rows_alike rows _ = record { status = refl; line = refl }

list_alike : (contents : Contents) (source : List ℕ) → RefuseAlike (list_report (listing contents source)) (copy_report (module_by contents source))
list_alike contents source =
    let found = listing contents source in
    subst (λ refusal. RefuseAlike (rows_report (listing_rows found) refusal) (copy_report (module_by contents source))) (sym (refused_alike contents source))
    (rows_alike (listing_rows found) (module_by contents source))

glist_alike : (listed : gpl_list.Listing) (program : Result Program (Refusal GplCause)) → ListsOf listed program
    → RefuseAlike (listing_report listed) (gasm_report program)
glist_alike listed (Ok program) gives =
    subst (λ refused. RefuseAlike (report_by (listing_lines listed.rows listed.names) refused) (gasm_report (Ok program))) (sym gives.accepted)
    (record { status = refl; line = refl })
glist_alike listed (Err refusal) is =
    subst (λ refused. RefuseAlike (report_by (listing_lines listed.rows listed.names) refused) (gasm_report (Err refusal))) (sym is)
    (record { status = refl; line = refl })

-- what holds of two reports on an input holds of two on each input, if it holds of the refusal of one that is too large
by_size : (R : Report → Report → Type 0) → R (Faulty TooLarge) (Faulty TooLarge) → (A B : Report → Type 0)
    → ((first second : Report) → A first → B second → R first second)
    → (large : Bool) (first second : Report) → MatchBool large (first ≡ Faulty TooLarge) (A first) → MatchBool large (second ≡ Faulty TooLarge) (B second)
    → R first second
by_size R refused A B on true first second p q = subst (λ report. R report second) (sym p) (subst (R (Faulty TooLarge)) (sym q) refused)
by_size R refused A B on false first second p q = on first second p q

-- what holds of two values holds of what they are
by_values : (R : Report → Report → Type 0) (first second one other : Report) → first ≡ one → second ≡ other → R one other → R first second
by_values R first second one other p q holds = subst (λ report. R report second) (sym p) (subst (R one) (sym q) holds)

same_refusal : RefuseAlike (Faulty TooLarge) (Faulty TooLarge)
same_refusal = record { status = refl; line = refl }

-- the steps of a program, and then its run
module _ (limit : ℕ) where
  program_holds : (image : Image) (entry : ℕ) (stepped ran : Report)
      → ReportsProgram (shown_lines all_changes_text) limit image entry stepped → ReportsProgram run_lines limit image entry ran → Holds stepped ran []
  program_holds image entry stepped ran p q =
      let s = start p.bytes entry in
      let r = run limit s in
      let made : ProgramRun = record { image = image; begun = s; made = r; left = p.left } in
      let alone : ReportsProgram run_lines limit image entry (Whole (program_status r.stop) (run_lines made)) = record {
        bytes = p.bytes;
        of_image = p.of_image;
        left = p.left;
        runs = p.runs;
        is = refl;
      } in
      let same : ran ≡ Whole (program_status r.stop) (run_lines made) = one_program run_lines limit image entry ran _ q alone in
      subst (λ report. Holds report ran []) (sym p.is)
      (step_lines all_changes_text s r.done, run_lines made, ap (λ own. step_lines all_changes_text s r.done ++ own) (sym (append-nil (run_lines made))), same)

  entered_holds : (image : Image) (entry : Option ℕ) (stepped ran : Report)
      → EnteredReport (ReportsProgram (shown_lines all_changes_text) limit) image entry stepped → EnteredReport (ReportsProgram run_lines limit) image entry ran
      → Holds stepped ran []
  entered_holds image (Some entry) stepped ran p q = program_holds image entry stepped ran p q
  entered_holds image None stepped ran p q = subst (λ report. Holds report ran []) (sym p) (sym q)

  source_holds : (program : Result Program (Refusal GplCause)) (stepped ran : Report)
      → ProgramReport (ReportsProgram (shown_lines all_changes_text) limit) program stepped → ProgramReport (ReportsProgram run_lines limit) program ran
      → Holds stepped ran []
  source_holds (Ok program) stepped ran p q = entered_holds program.image program.entry stepped ran p q
  source_holds (Err refused) stepped ran p q = subst (λ report. Holds report ran []) (sym p) (sym q)

  -- the instructions of a run, what `exec` writes of it, and the expansion memory
  execution_holds : (linked : LinkedMemory) (stepped executed : Report) → ReportsSteps limit linked stepped → ExecReport limit (Ok linked) executed
      → (after : List (List ℕ)) × Holds stepped executed after
  execution_holds linked stepped executed p q =
      let alone : ReportsExecution limit linked (Whole (end_status p.ending) (exec_lines p.ending p.left)) = record {
        ending = p.ending;
        left = p.left;
        executes = p.executes;
        is = refl;
      } in
      let same : executed ≡ Whole (end_status p.ending) (exec_lines p.ending p.left) = one_exec limit (Ok linked) executed _ q alone in
      let after = expansion_lines p.left.cpu.memory in
      let made = lines.step_lines p.executes.start p.executes.made in
      (after, subst (λ report. Holds report executed after) (sym p.is) (made, exec_lines p.ending p.left, refl, same))

  linked_holds : (linked : Result LinkedMemory (List ℕ)) (stepped executed : Report) → StepsReport limit linked stepped → ExecReport limit linked executed
      → (after : List (List ℕ)) × Holds stepped executed after
  linked_holds (Ok linked) stepped executed p q = execution_holds linked stepped executed p q
  linked_holds (Err line) stepped executed p q = ([], subst (λ report. Holds report executed []) (sym p) (sym q))

pub siblings_report_alike : SiblingsReportAlike
siblings_report_alike =
    record {
      glist = λ files input listed assembled p q.
          let listing = gpl_list.listing_of input in
          let program = program_of_source input in
          by_size RefuseAlike same_refusal (λ report. report ≡ listing_report listing) (λ report. report ≡ gasm_report program)
          (λ first second a b. by_values RefuseAlike first second _ _ a b (glist_alike listing program (listings_give_programs input)))
          (nat_lt largest_input (length input)) listed assembled p q;
      list = list_alike;
      list_files = λ files input listed assembled p q.
          by_size RefuseAlike same_refusal (λ report. report ≡ list_report (listing (of_files files) input)) (AsmReport files input)
          (λ first second a b. by_values RefuseAlike first second _ _ a b (list_alike (of_files files) input))
          (nat_lt largest_input (length input)) listed assembled p q;
      gsteps = λ limit files input stepped ran p q.
          by_size (λ first second. Holds first second []) refl (ProgramReport (ReportsProgram (shown_lines all_changes_text) limit) (program_of_source input))
          (ProgramReport (ReportsProgram run_lines limit) (program_of_source input)) (source_holds limit (program_of_source input))
          (nat_lt largest_input (length input)) stepped ran p q;
      steps = λ limit files input stepped executed p q.
          by_size (λ first second. (after : List (List ℕ)) × Holds first second after) ([], refl) (StepsReport limit (linked_input input))
          (ExecReport limit (linked_input input)) (linked_holds limit (linked_input input))
          (nat_lt largest_input (length input)) stepped executed p q;
    }
