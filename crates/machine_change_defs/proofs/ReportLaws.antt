-- What holds of all reports of `steps`.
use Rattle.std.proofs.Common.{◌≡◌, ℕ, ◌+◌, ◌-◌, ◌<◌, ◌≤◌, List, ◌++◌, None, Result, Ok, Err, sym, ap, ◌∙◌, subst}
use Rattle.std.proofs.Common.{append_assoc, arith}
use Rattle.std.specs.Prelude.{nat_lt, map}
use Rattle.std.specs.List.{range_with_len}
use Rattle.std.proofs.lemmas.Bool.Decides.{nat_tests}
use Rattle.console_defs.specs.Machine.{MachineState}
use Rattle.console_defs.specs.Runs.{IsRun, end_at}
use Rattle.console_defs.specs.declared.run_end.RunEnd.{RunEnd}
use Rattle.link_defs.specs.LinkedMemory.{LinkedMemory}
use Rattle.report_defs.specs.Exec.{exec_lines, end_status}
use Rattle.report_defs.specs.Laws.{IsPrefixOf}
use Rattle.report_defs.specs.ObjectInput.{linked_input}
use Rattle.report_defs.specs.Report.{Report, Whole}
use Rattle.report_defs.proofs.OneReport.{one_start, one_number, same_run, some_apart}
use Rattle.report_defs.proofs.Ranges.{mapped_split}
use Rattle.machine_change_defs.specs.Lines.{line_after, step_lines, expansion_lines}
use Rattle.machine_change_defs.specs.Reports.{ReportsSteps, StepsReport, ShowsInstructions, StepsFront}
use Rattle.machine_change_defs.proofs.Keeping.{pick}
use Rattle.machine_change_defs.specs.Laws.{OneStepsReport, StepsFrontsBeginReports}

abbrev whole : MachineState → ℕ → RunEnd → MachineState → Report
whole x made ending y = Whole (end_status ending) (step_lines x made ++ (exec_lines ending y ++ expansion_lines y.cpu.memory))

one_run : (limit : ℕ) (linked : LinkedMemory) (first second : Report) → ReportsSteps limit linked first → ReportsSteps limit linked second → first ≡ second
one_run limit linked first second p q =
    let start : p.executes.start ≡ q.executes.start = one_start linked p.executes.start q.executes.start p.executes.is_start q.executes.is_start in
    let run : IsRun None limit q.executes.made p.executes.start q.ending q.left =
    subst (λ s. IsRun None limit q.executes.made s q.ending q.left) (sym start) q.executes.run in
    let made : p.executes.made ≡ q.executes.made =
    one_number None limit p.executes.made q.executes.made p.executes.start p.left q.left p.ending q.ending p.executes.run run in
    let same = same_run None limit p.executes.made q.executes.made p.executes.start p.left q.left p.ending q.ending made p.executes.run run in
    p.is
    ∙ ap (λ s. whole s p.executes.made p.ending p.left) start
    ∙ ap (λ (n : ℕ). whole q.executes.start n p.ending p.left) made
    ∙ ap (λ e. whole q.executes.start q.executes.made e p.left) same.0
    ∙ ap (whole q.executes.start q.executes.made q.ending) same.1
    ∙ sym q.is

one : (limit : ℕ) (linked : Result LinkedMemory (List ℕ)) (first second : Report) → StepsReport limit linked first → StepsReport limit linked second → first ≡ second
one limit (Ok linked) first second p q = one_run limit linked first second p q
one limit (Err line) first second p q = p ∙ sym q

-- the lines of fewer instructions are a front of those of more
lines_after : (x : MachineState) (few made : ℕ) → few ≤ made → (rest : List (List ℕ)) × (step_lines x made ≡ step_lines x few ++ rest)
unfolding step_lines
lines_after x few made le =
    let sum : few + (made - few) ≡ made = omega arith in
    (map (line_after x) (range_with_len few (made - few)), ap (λ (n : ℕ). step_lines x n) (sym sum) ∙ mapped_split (line_after x) few (made - few))

-- a run is not shorter than what nothing ended
not_shorter : (limit few made : ℕ) (x y : MachineState) (ending : RunEnd) → ((before : ℕ) → before < few → end_at None limit before x ≡ None)
    → IsRun None limit made x ending y → few ≤ made
not_shorter limit few made x y ending goes run =
    pick (nat_lt made few)
    (λ e. absurd (some_apart ending _ run.ends (goes made (grind (arith, nat_tests)))))
    (λ e. grind (arith, nat_tests))

begins_run : (limit : ℕ) (linked : LinkedMemory) (front report : Report) → ShowsInstructions limit linked front → ReportsSteps limit linked report → IsPrefixOf front report
begins_run limit linked front report p q =
    let start : q.executes.start ≡ p.start = one_start linked q.executes.start p.start q.executes.is_start p.is_start in
    let run : IsRun None limit q.executes.made p.start q.ending q.left =
    subst (λ s. IsRun None limit q.executes.made s q.ending q.left) start q.executes.run in
    let le = not_shorter limit p.made q.executes.made p.start q.left q.ending p.runs run in
    let later = lines_after p.start p.made q.executes.made le in
    let after = exec_lines q.ending q.left ++ expansion_lines q.left.cpu.memory in
    let is : report ≡ Whole (end_status q.ending) (step_lines p.start p.made ++ (later.0 ++ after)) =
    q.is ∙ ap (λ s. whole s q.executes.made q.ending q.left) start
    ∙ ap (λ lines. Whole (end_status q.ending) (lines ++ after)) later.1
    ∙ ap (Whole (end_status q.ending)) (append_assoc (step_lines p.start p.made) later.0 after) in
    subst (λ f. IsPrefixOf f report) (sym p.is) (end_status q.ending, later.0 ++ after, is)

begins : (limit : ℕ) (linked : Result LinkedMemory (List ℕ)) (front report : Report) → StepsFront limit linked front → StepsReport limit linked report → IsPrefixOf front report
begins limit (Ok linked) front report p q = begins_run limit linked front report p q
begins limit (Err line) front report p q = subst (λ f. IsPrefixOf f report) (sym p) q

pub one_steps_report : OneStepsReport
one_steps_report limit input first second p q = one limit (linked_input input) first second p q

pub steps_fronts_begin_reports : StepsFrontsBeginReports
steps_fronts_begin_reports limit input front report p q = begins limit (linked_input input) front report p q
